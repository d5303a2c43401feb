use Rattle.std.proofs.Common.{ℕ, ◌+◌, ◌*◌, ◌≤◌, Bool, List, length, Err, sym, ap, ◌∙◌, subst, arith}
use Rattle.std.proofs.lemmas.Result.{err_from_is_err_and}
use Rattle.refusal.specs.declared.Refusal.{Refusal}
use Rattle.journal.specs.declared.Entry.{Entry}
use Rattle.entries.specs.Histories.{codes_of}
use Rattle.cabinet.specs.declared.Cabinet.{Cabinet}
use Rattle.cabinet.specs.Steps.{Outcome, listed}
use Rattle.receiving.specs.Readiness.{tray_length}
use Rattle.receiving.proofs.Naming.{listed_names}
use Rattle.station.specs.Calling.{parts}
use Rattle.calls.specs.Stations.{Station, cabinets, cabinet_at}
use Rattle.calls.specs.Calls.{kind_of}
use Rattle.station.specs.Acting.{act_step}
use Rattle.station.proofs.Refusing.{called_tells, does_step}
use Rattle.station.proofs.Finishing.{finished, station_left, step_refused}
use Rattle.station.proofs.Wording.{act_names}
use Rattle.station.proofs.acting.perform.Goals as goal

pub returns-in_err-reply : goal.returns-in_err-reply
returns-in_err-reply g c =
    let table : List Cabinet = c.args.table.now in
    let journal = c.args.journal.now in
    let codes : ℕ → Bool = codes_of g.K.OrderKind.decode in
    let quorum : ℕ → ℕ → Bool = g.R.QuorumRule.quorum c.args.rule.now in
    let s : Station = parts g.J.Journal.owners g.J.Journal.limit g.J.Journal.lists table journal c.args.trays.now in
    let i : ℕ = c.args.number in
    let k : ℕ = c.args.tray in
    let step : Outcome = act_step (kind_of g.K.OrderKind.proper g.K.OrderKind.encode g.K.OrderKind.decode) quorum s.limit (cabinets s) i (s.lists i) (cabinet_at s i) c.args.step.now in
    let called-ok = sym c.in_ok-check_call.was ∙ c.check_call.ensures in
    let tells = called_tells codes s i k called-ok in
    let whole = does_step codes s i k step called-ok in
    let o : Outcome = listed s.owners s.lists i (cabinet_at s i) step in
    let done = step_refused s i k c.act.new.cabinet o _ c.in_err-reply.field-0.0 whole (sym c.in_err-reply.was ∙ c.act.ensures.answer) c.act.ensures.«record» in
    let error = err_from_is_err_and c.from_residual-in_err-reply.result c.from_residual-in_err-reply.ensures.1 in
    record {
      answer = error.1 ∙ ap (λ (r : Refusal). Err r) error.2 ∙ done.answer;
      station = station_left s i k _ _ _ _ _ _ done.table c.act.ensures.journal.owners c.act.ensures.journal.limit (λ p. c.act.ensures.journal.lists p ∙ done.lists p) (done.trays);
    }

pub say-requires : goal.say-requires
say-requires g c =
    let table : List Cabinet = c.args.table.now in
    let journal = c.args.journal.now in
    let codes : ℕ → Bool = codes_of g.K.OrderKind.decode in
    let s : Station = parts g.J.Journal.owners g.J.Journal.limit g.J.Journal.lists table journal c.args.trays.now in
    let i : ℕ = c.args.number in
    let k : ℕ = c.args.tray in
    let tells = called_tells codes s i k (sym c.in_ok-check_call.was ∙ c.check_call.ensures) in
    subst (λ n. k * tray_length n + tray_length n ≤ length s.trays) (sym c.act.ensures.journal.limit) tells.room

pub returns : goal.returns
returns g c =
    let table : List Cabinet = c.args.table.now in
    let journal = c.args.journal.now in
    let codes : ℕ → Bool = codes_of g.K.OrderKind.decode in
    let quorum : ℕ → ℕ → Bool = g.R.QuorumRule.quorum c.args.rule.now in
    let s : Station = parts g.J.Journal.owners g.J.Journal.limit g.J.Journal.lists table journal c.args.trays.now in
    let i : ℕ = c.args.number in
    let k : ℕ = c.args.tray in
    let step : Outcome = act_step (kind_of g.K.OrderKind.proper g.K.OrderKind.encode g.K.OrderKind.decode) quorum s.limit (cabinets s) i (s.lists i) (cabinet_at s i) c.args.step.now in
    let called-ok = sym c.in_ok-check_call.was ∙ c.check_call.ensures in
    let tells = called_tells codes s i k called-ok in
    let whole = does_step codes s i k step called-ok in
    let o : Outcome = listed s.owners s.lists i (cabinet_at s i) step in
    let ls' : ℕ → List Entry = g.J.Journal.lists c.act.new.journal in
    let short : length (ls' i) ≤ s.limit = omega (arith, g.met.J.Journal.laws.within c.act.new.journal i, c.act.ensures.journal.limit) in
    let names = listed_names s.owners s.lists i (cabinet_at s i) step (act_names quorum s.limit i (s.lists i) (cabinet_at s i) (kind_of g.K.OrderKind.proper g.K.OrderKind.encode g.K.OrderKind.decode) (cabinets s) c.args.step.now) in
    let done =
    finished s i k c.in_ok-reply.reply c.act.new.cabinet (g.J.Journal.owners c.act.new.journal) ls' (omega (arith, tells.is_named.within, tells.is_named.owned, c.act.ensures.journal.owners)) (omega (arith, tells.is_named.limited)) short tells.room
    (g.J.Journal.limit c.act.new.journal) o _ c.act.ensures.journal.limit whole (sym c.in_ok-reply.was ∙ c.act.ensures.answer) c.act.ensures.«record» (c.act.ensures.journal.lists i) names in
    record {
      answer = c.say.ensures.answer ∙ done.answer;
      station = station_left s i k _ _ _ _ _ _ done.table c.act.ensures.journal.owners c.act.ensures.journal.limit (λ p. c.act.ensures.journal.lists p ∙ done.lists p) (c.say.ensures.trays ∙ done.trays);
    }
