use Rattle.std.proofs.Common.{◌≡◌, ℕ, ◌+◌, ◌*◌, ◌<◌, ◌≤◌, ltb, List, length, take, Ok, Err, Result, inl, inr, ap, ◌∙◌, arith}
use Rattle.std.proofs.lemmas.List.{length-take-le}
use Rattle.std.proofs.lemmas.Bool.{cases_lt, cond-false, le-ltb}
use Rattle.std.proofs.lemmas.Bool.Decides.{nat_tests}
use Rattle.std.specs.Result.{result_unwrap_or}
use Rattle.refusal.specs.declared.Refusal.{Refusal}
use Rattle.refusal.specs.declared.Refusal.TheVariants.{NoCabinet}
use Rattle.journal.specs.Lists.{length_answer, entry_answer}
use Rattle.journal.specs.declared.Entry.{Entry}
use Rattle.entries.specs.Entries.{entry_bytes, entries_bytes}
use Rattle.entries.proofs.Journals.{entry_tells}
use Rattle.entries.proofs.ListTrips.{bytes_length}
use Rattle.writing.specs.Writing.{over}
use Rattle.writing.proofs.Layers.{over_over, bytes_more}
use Rattle.writing.proofs.journals.ListPartPart.put_part.Goals as goal
use Rattle.writing.proofs.journals.ListPartPart.put_part.Goals.{in-Ok, in_default}

-- below the length, no entry is refused
never : (owners o k n : ℕ) (e : Refusal) (ls : ℕ → List Entry) → n ≡ result_unwrap_or (length_answer owners ls o) 0 → k < n → Err e ≡ entry_answer owners ls o k → ⊥
never owners o k n e ls counted below told = elim (cases_lt o owners) [ inl there ↦ grind (arith, nat_tests) | inr none ↦ (let z : n ≡ 0 = counted ∙ ap (λ (r : Result ℕ Refusal). result_unwrap_or r 0) (cond-false (ltb o owners) (Ok (length (ls o))) (Err NoCabinet) (le-ltb o owners none)) in omega arith) ]

pub put-requires : goal.put-requires
put-requires g c =
    let j = c.args.self.now.journal.now in
    let es : List Entry = g.J.Journal.lists j c.args.self.now.owner in
    let at = entry_tells (g.J.Journal.owners j) c.args.self.now.owner c.loop-position.position c.in-Ok.entry (g.J.Journal.lists j) c.in-Ok.ensures in
    omega (arith, at.0, bytes_length es, ap length c.bytes_of.ensures)

pub loop-position-preserved : goal.loop-position-preserved
loop-position-preserved g c =
    let k : ℕ = c.loop-position.position in
    let out : List ℕ = c.args.out.now in
    let j = c.args.self.now.journal.now in
    let es : List Entry = g.J.Journal.lists j c.args.self.now.owner in
    let low : 24 ≤ length out = omega (arith, c.requires) in
    elim c.match-entry.branch [
      | in-Ok w ↦
          let at = entry_tells (g.J.Journal.owners j) c.args.self.now.owner k w.in-Ok.entry (g.J.Journal.lists j) w.in-Ok.ensures in
          let end : 24 + length (entries_bytes (take k es)) ≡ 24 + 16 * k = omega (arith, bytes_length (take k es), length-take-le k es (omega (arith, at.0))) in (
            omega (arith, c.loop-position-test.true),
            w.out-is ∙ w.put.ensures
                ∙ ap (λ (xs : List ℕ). over xs (24 + 16 * k) w.bytes_of.result) c.loop-position.invariant.1
                ∙ ap (λ (xs : List ℕ). over (over out 24 (entries_bytes (take k es))) (24 + 16 * k) xs) w.bytes_of.ensures
                ∙ over_over out (entries_bytes (take k es)) (entry_bytes w.in-Ok.entry) 24 (24 + 16 * k) low end
                ∙ ap (over out 24) (bytes_more es k w.in-Ok.entry at.0 at.1),
          )
      | in_default w ↦ absurd (never (g.J.Journal.owners j) c.args.self.now.owner k _ w.in_default.field-0 (g.J.Journal.lists j) (c.unwrap_or-position-end.ensures ∙ ap (λ (r : Result ℕ Refusal). result_unwrap_or r 0) c.length.ensures) c.loop-position-test.true w.in_default.ensures)
    ]
