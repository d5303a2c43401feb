use Rattle.std.proofs.Common.{◌≡◌, ℕ, List, [], length, get_or, sym, ap, ◌∙◌, arith}
use Rattle.std.proofs.lemmas.List.{length-map, get_or-map}
use Rattle.journal.specs.declared.Entry.{Entry}
use Rattle.journal.specs.Entries.{blank}
use Rattle.entries.specs.Entries.{entries_of, entry_in}
use Rattle.entries.proofs.Replacements.{append_room, begun_length, begun_more}
use Rattle.entries.proofs.replacing.replace.Goals as goal

-- no append is refused: the limit holds them all
pub returns-in_err-append : goal.returns-in_err-append
returns-in_err-append g c =
    let es : List Entry = entries_of c.args.bytes.now in
    let inv = c.loop-part.invariant in
    let n = sym (length-map c.parts-parts.result.now entry_in) ∙ ap length c.parts-parts.ensures in
    let long = begun_length c.args.owner c.loop-part.part-index es (g.J.Journal.lists c.keep.new.self) (g.J.Journal.lists c.loop-part.journal) (omega arith) inv.2 in
    let room = append_room (g.J.Journal.owners c.loop-part.journal) (g.J.Journal.limit c.loop-part.journal) c.args.owner (g.J.Journal.lists c.loop-part.journal) (omega (arith, inv.0, c.keep.ensures.journal.owners)) (omega (arith, inv.1, c.keep.ensures.journal.limit, long)) in
    let refused = c.in_err-append.was in
    absurd (let z : ◌≡◌ {A = ℕ} 0 1 = cc c.append.ensures.answer in omega arith)

pub loop-part-preserved : goal.loop-part-preserved
loop-part-preserved g c =
    let ps : List (List ℕ) = c.parts-parts.result.now in
    let es : List Entry = entries_of c.args.bytes.now in
    let k : ℕ = c.loop-part.part-index in
    let inv = c.loop-part.invariant in
    let n = sym (length-map ps entry_in) ∙ ap length c.parts-parts.ensures in
    let is : get_or es k blank ≡ c.entry_in.result =
    ap (λ (xs : List Entry). get_or xs k blank) (sym c.parts-parts.ensures) ∙ get_or-map entry_in ps k [] blank c.loop-part-test.true ∙ sym c.entry_in.ensures in (
      c.append.ensures.journal.owners ∙ inv.0,
      c.append.ensures.journal.limit ∙ inv.1,
      begun_more (g.J.Journal.owners c.loop-part.journal) (g.J.Journal.limit c.loop-part.journal) c.args.owner k c.entry_in.result es
          (g.J.Journal.lists c.keep.new.self) (g.J.Journal.lists c.loop-part.journal) (g.J.Journal.lists c.append.new.self)
          (omega (arith, inv.0, c.keep.ensures.journal.owners)) (omega arith) (omega (arith, inv.1, c.keep.ensures.journal.limit)) is inv.2 c.append.ensures.journal.lists,
    )
