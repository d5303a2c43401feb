-- The laws of both kinds of order, proved. Assumes nothing.
use Rattle.std.specs.Prelude.{◌^◌}
use Rattle.std.specs.Int.{w32}
use Rattle.std.proofs.Common.{ap, sym, ◌∙◌, arith, rules}
use Rattle.std.proofs.lemmas.Nat.{mod_below, pow_pos}
use Rattle.std.proofs.lemmas.Int.{of_z-to_z}
use Rattle.std.proofs.lemmas.Bool.Decides.{nat_tests}
use Rattle.orders.specs.Codes.{joined, low_of, middle_of, high_of}
use Rattle.orders.specs.Kinds.{ReadsBack, ReadsCodesOnly, CodesDiffer, CodesFit}
use Rattle.orders.specs.Reading.{joined_again, if_proper_some, codes_differ}
use Rattle.orders.specs.Samples
use Rattle.orders.specs.SetPoints

pub sample_reads_back : ReadsBack Samples.proper Samples.encode Samples.decode
sample_reads_back = search rules

pub sample_reads_codes_only : ReadsCodesOnly Samples.proper Samples.encode Samples.decode
sample_reads_codes_only n x read =
    let found = if_proper_some Samples.proper (Samples.fields_of n) x read in
    (found.0, sym (ap Samples.encode found.1) ∙ joined_again n)

pub sample_codes_differ : CodesDiffer Samples.proper Samples.encode
sample_codes_differ = codes_differ Samples.proper Samples.encode Samples.decode sample_reads_back

pub sample_codes_fit : CodesFit Samples.proper Samples.encode
sample_codes_fit x fits = grind (arith, nat_tests)

pub set_point_reads_back : ReadsBack SetPoints.proper SetPoints.encode SetPoints.decode
set_point_reads_back = search rules

pub set_point_reads_codes_only : ReadsCodesOnly SetPoints.proper SetPoints.encode SetPoints.decode
set_point_reads_codes_only n x read =
    let found = if_proper_some SetPoints.proper (SetPoints.fields_of n) x read in
    let word = of_z-to_z w32 (low_of n) (mod_below n (2 ^ 32) (pow_pos 32)) in
    (found.0, sym (ap SetPoints.encode found.1) ∙ ap (λ low. joined low (middle_of n) (high_of n)) word ∙ joined_again n)

pub set_point_codes_differ : CodesDiffer SetPoints.proper SetPoints.encode
set_point_codes_differ = codes_differ SetPoints.proper SetPoints.encode SetPoints.decode set_point_reads_back

pub set_point_codes_fit : CodesFit SetPoints.proper SetPoints.encode
set_point_codes_fit x fits = grind (arith, nat_tests)
