use Rattle.std.proofs.Common.{◌≡◌, ℕ, ◌+◌, ◌*◌, ◌≤◌, Bool, List, length, Err, sym, ap, ◌∙◌, subst, arith}
use Rattle.std.proofs.lemmas.Result.{err_from_is_err_and}
use Rattle.std.specs.List.{between}
use Rattle.refusal.specs.declared.Refusal.{Refusal}
use Rattle.journal.specs.declared.Entry.{Entry}
use Rattle.entries.specs.Histories.{codes_of}
use Rattle.cabinet.specs.Steps.{Outcome, left_by, listed, lists_by, said_by}
use Rattle.reactions.specs.Reactions.{hear_step}
use Rattle.receiving.specs.Readiness.{tray_length}
use Rattle.receiving.proofs.Naming.{hear_names, listed_names}
use Rattle.station.specs.Calling.{parts}
use Rattle.calls.specs.Stations.{Station, cabinets, cabinet_at, tray_at}
use Rattle.station.proofs.Finishing.{finished, station_left, step_refused}
use Rattle.station.proofs.Hands.{heard, handed_tells, hands}
use Rattle.station.proofs.handing.hand.Goals as goal

pub slice_bounds-bytes-end : goal.slice_bounds-bytes-end
slice_bounds-bytes-end g c =
    let journal = c.args.journal.now in
    let s : Station = parts g.J.Journal.owners g.J.Journal.limit g.J.Journal.lists c.args.table.now journal c.args.trays.now in
    let tells = handed_tells (codes_of g.K.OrderKind.decode) (g.R.QuorumRule.quorum c.args.rule.now) s c.args.from c.args.cabinet c.args.to (sym c.in_ok-check_hand.was ∙ c.check_hand.ensures) in
    let size : c.tray_length-size.result ≡ tray_length s.limit = c.tray_length-size.ensures ∙ ap tray_length c.limit.ensures in
    subst (λ n. c.args.from * n + n ≤ length c.args.trays.now) (sym size) tells.from_there

pub returns-in_err-reply : goal.returns-in_err-reply
returns-in_err-reply g c =
    let table = c.args.table.now in
    let journal = c.args.journal.now in
    let codes : ℕ → Bool = codes_of g.K.OrderKind.decode in
    let quorum : ℕ → ℕ → Bool = g.R.QuorumRule.quorum c.args.rule.now in
    let s : Station = parts g.J.Journal.owners g.J.Journal.limit g.J.Journal.lists table journal c.args.trays.now in
    let from : ℕ = c.args.from in
    let i : ℕ = c.args.cabinet in
    let k : ℕ = c.args.to in
    let told = sym c.in_ok-check_hand.was ∙ c.check_hand.ensures in
    let tells = handed_tells codes quorum s from i k told in
    let whole = hands codes quorum s from i k told in
    let size : c.tray_length-size.result ≡ tray_length s.limit = c.tray_length-size.ensures ∙ ap tray_length c.limit.ensures in
    let by : ℕ → Outcome = λ n. listed s.owners s.lists i (cabinet_at s i) (hear_step codes quorum (cabinets s) s.limit i (s.lists i) (cabinet_at s i) (between (from * n) (from * n + n) s.trays)) in
    let o : Outcome = by (tray_length s.limit) in
    let answer = c.hear.ensures.answer ∙ ap (λ n. said_by (by n)) size in
    let left = c.hear.ensures.«record» ∙ ap (λ n. left_by (cabinet_at s i) (by n)) size in
    let lists : (p : ℕ) → g.J.Journal.lists c.hear.new.journal p ≡ lists_by s.lists i o p = λ p. c.hear.ensures.journal.lists p ∙ ap (λ n. lists_by s.lists i (by n) p) size in
    let done = step_refused s i k c.hear.new.cabinet o _ c.in_err-reply.field-0.0 whole (sym c.in_err-reply.was ∙ answer) left in
    let error = err_from_is_err_and c.from_residual-in_err-reply.result c.from_residual-in_err-reply.ensures.1 in
    record {
      answer = error.1 ∙ ap (λ (r : Refusal). Err r) error.2 ∙ done.answer;
      station = station_left s i k _ _ _ _ _ _ done.table c.hear.ensures.journal.owners c.hear.ensures.journal.limit (λ p. lists p ∙ done.lists p) (done.trays);
    }

pub say-requires : goal.say-requires
say-requires g c =
    let journal = c.args.journal.now in
    let s : Station = parts g.J.Journal.owners g.J.Journal.limit g.J.Journal.lists c.args.table.now journal c.args.trays.now in
    let tells = handed_tells (codes_of g.K.OrderKind.decode) (g.R.QuorumRule.quorum c.args.rule.now) s c.args.from c.args.cabinet c.args.to (sym c.in_ok-check_hand.was ∙ c.check_hand.ensures) in
    subst (λ n. c.args.to * tray_length n + tray_length n ≤ length s.trays) (sym c.hear.ensures.journal.limit) tells.to_there

pub returns : goal.returns
returns g c =
    let table = c.args.table.now in
    let journal = c.args.journal.now in
    let codes : ℕ → Bool = codes_of g.K.OrderKind.decode in
    let quorum : ℕ → ℕ → Bool = g.R.QuorumRule.quorum c.args.rule.now in
    let s : Station = parts g.J.Journal.owners g.J.Journal.limit g.J.Journal.lists table journal c.args.trays.now in
    let from : ℕ = c.args.from in
    let i : ℕ = c.args.cabinet in
    let k : ℕ = c.args.to in
    let told = sym c.in_ok-check_hand.was ∙ c.check_hand.ensures in
    let tells = handed_tells codes quorum s from i k told in
    let whole = hands codes quorum s from i k told in
    let size : c.tray_length-size.result ≡ tray_length s.limit = c.tray_length-size.ensures ∙ ap tray_length c.limit.ensures in
    let by : ℕ → Outcome = λ n. listed s.owners s.lists i (cabinet_at s i) (hear_step codes quorum (cabinets s) s.limit i (s.lists i) (cabinet_at s i) (between (from * n) (from * n + n) s.trays)) in
    let o : Outcome = by (tray_length s.limit) in
    let answer = c.hear.ensures.answer ∙ ap (λ n. said_by (by n)) size in
    let left = c.hear.ensures.«record» ∙ ap (λ n. left_by (cabinet_at s i) (by n)) size in
    let lists : (p : ℕ) → g.J.Journal.lists c.hear.new.journal p ≡ lists_by s.lists i o p = λ p. c.hear.ensures.journal.lists p ∙ ap (λ n. lists_by s.lists i (by n) p) size in
    let ls' : ℕ → List Entry = g.J.Journal.lists c.hear.new.journal in
    let owners' : ℕ = g.J.Journal.owners c.hear.new.journal in
    let short : length (ls' i) ≤ s.limit = omega (arith, g.met.J.Journal.laws.within c.hear.new.journal i, c.hear.ensures.journal.limit) in
    let names = listed_names s.owners s.lists i (cabinet_at s i) (heard codes quorum s from i k) (hear_names quorum s.limit i (s.lists i) (cabinet_at s i) codes (cabinets s) (tray_at s from)) in
    let done =
    finished s i k c.in_ok-reply.reply c.hear.new.cabinet owners' ls' (omega (arith, tells.is_named.within, tells.is_named.owned, c.hear.ensures.journal.owners)) (omega (arith, tells.is_named.limited)) short tells.to_there
    (g.J.Journal.limit c.hear.new.journal) o _ c.hear.ensures.journal.limit whole (sym c.in_ok-reply.was ∙ answer) left (lists i) names in
    record {
      answer = c.say.ensures.answer ∙ done.answer;
      station = station_left s i k _ _ _ _ _ _ done.table c.hear.ensures.journal.owners c.hear.ensures.journal.limit (λ p. lists p ∙ done.lists p) (c.say.ensures.trays ∙ done.trays);
    }
