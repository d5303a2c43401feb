use Rattle.std.proofs.lemmas.Nat.{ones-le}
use Rattle.quorum.specs.Masks.{ones_size}
use Rattle.quorum.proofs.size.Goals as goal

pub returns : goal.returns
returns c = record { size = ones_size c.args.set c.ranges.set.fits; few = ones-le 16 c.args.set c.ranges.set.fits }
