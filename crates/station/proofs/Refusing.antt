-- What refused calls leave: everything as it was. Assumes nothing.
use Rattle.std.proofs.Common.{◌≡◌, ℕ, ◌+◌, ◌<◌, ◌≤◌, Bool, true, false, cond, eqb, ltb, leb, List, length, get_or, set, Ok, Err, Result, sym, refl, ap, ◌∙◌, arith}
use Rattle.std.proofs.lemmas.List.{set-get_or}
use Rattle.std.proofs.lemmas.Bool.Decides.{nat_tests}
use Rattle.refusal.specs.declared.Refusal.{Refusal}
use Rattle.refusal.specs.declared.Refusal.TheVariants.{OutOfBounds, NoCabinet, NoPosition, NotLeading}
use Rattle.refusal.specs.Answers.{and_then, unless}
use Rattle.journal.specs.declared.Entry.{Entry}
use Rattle.cabinet.specs.declared.Cabinet.{Cabinet}
use Rattle.cabinet.specs.declared.Reply.TheVariants.{Nothing}
use Rattle.cabinet.specs.Records.{after, done}
use Rattle.cabinet.specs.Steps.{Outcome, leaves, left_by, listed}
use Rattle.acts.specs.Acts.{refresh_step, says_history}
use Rattle.cabinet.proofs.Listed.{listed_ok}
use Rattle.receiving.specs.Readiness.{tray_length}
use Rattle.calls.specs.Stations.{Station, station, station_after, cabinets, cabinet_at, in_bounds, named, has_tray, ready_at, no_cabinet, tray_start, tray_count}
use Rattle.calls.specs.Calls.{acting, switching}
use Rattle.calls.proofs.Trays.{tray_within}
use Rattle.receiving.proofs.Passing.{ready_tells}
use Rattle.station.specs.Acting.{called}
use Rattle.station.specs.Calling.{Ended}
use Rattle.writing.specs.Speaking.{answer_by}

-- a table with a record written again where it was is the same
pub same_table : (table : List Cabinet) (i : ℕ) (d : Cabinet) → d ≡ get_or table i no_cabinet → set table i d ≡ table
same_table table i d same = ap (set table i) same ∙ set-get_or table i no_cabinet

-- what follows an accepted answer was accepted, and so was the answer
pub both_accepted : {A : Type 0} (a : Result (Unit {0}) Refusal) (f : Unit {0} → Result A Refusal) (x : A) → Ok x ≡ and_then a f → (Ok tt ≡ a) × (Ok x ≡ f tt)
both_accepted (Ok tt) f x told = (refl, told)
both_accepted (Err e) f x told = absurd (let z : ◌≡◌ {A = ℕ} 0 1 = cc in omega arith)

-- checks one after another, and then a step
pub checks_then : (a b c : Result (Unit {0}) Refusal) (o : Outcome) → and_then a (λ _. and_then b (λ _. and_then c (λ _. o))) ≡ and_then (and_then a (λ _. and_then b (λ _. c))) (λ _. o)
checks_then (Ok x) (Ok y) c o = refl
checks_then (Ok x) (Err e) c o = refl
checks_then (Err e) b c o = refl

-- what it tells that a cabinet is named
pub record Named (s : Station) (i : ℕ) : Type 0 where
  pub within : i < cabinets s
  pub small : cabinets s ≤ 16
  pub owned : cabinets s ≤ s.owners
  pub limited : 2 ≤ s.limit

pub named_tells : (s : Station) (i : ℕ) → Ok tt ≡ named s i → Named s i
named_tells s i told =
    let both = both_accepted (unless (in_bounds s) OutOfBounds) (λ _. unless (ltb i (cabinets s)) NoCabinet) tt told in
    let within : i < cabinets s = (let h = both.1 in grind (arith, nat_tests)) in
    let bounds : (cabinets s ≤ 16) × (cabinets s ≤ s.owners) × (2 ≤ s.limit) = (let h = both.0 in grind (arith, nat_tests)) in
    record { within = within; small = bounds.0; owned = bounds.1; limited = bounds.2 }

-- and that a tray is there
pub tray_tells : (s : Station) (k : ℕ) → Ok tt ≡ has_tray s k → tray_start s k + tray_length s.limit ≤ length s.trays
tray_tells s k told =
    let there : k < tray_count s = grind (arith, nat_tests) in
    tray_within k (tray_length s.limit) (length s.trays) there

-- what it tells that the checks of a call have passed
pub record Called (codes : ℕ → Bool) (s : Station) (i k : ℕ) : Type 0 where
  pub is_named : Named s i
  pub room : tray_start s k + tray_length s.limit ≤ length s.trays
  pub reaches : (cabinet_at s i).mark ≤ length (s.lists i)

pub called_tells : (codes : ℕ → Bool) (s : Station) (i k : ℕ) → Ok tt ≡ called codes s i k → Called codes s i k
called_tells codes s i k told =
    let first = both_accepted (named s i) (λ _. and_then (has_tray s k) (λ _. ready_at codes s i)) tt told in
    let second = both_accepted (has_tray s k) (λ _. ready_at codes s i) tt first.1 in
    record {
      is_named = named_tells s i first.0;
      room = tray_tells s k second.0;
      reaches = ready_tells codes (cabinets s) s.limit i (s.lists i) (cabinet_at s i) second.1;
    }

-- a call whose checks have passed does its step
pub does_step : (codes : ℕ → Bool) (s : Station) (i k : ℕ) (o : Outcome) → Ok tt ≡ called codes s i k → acting codes s i k o ≡ listed s.owners s.lists i (cabinet_at s i) o
does_step codes s i k o told =
    let t = called_tells codes s i k told in
    checks_then (named s i) (has_tray s k) (ready_at codes s i) o
    ∙ sym (ap (λ (r : Result (Unit {0}) Refusal). and_then r (λ _. o)) told)
    ∙ sym (listed_ok s.owners s.lists i (cabinet_at s i) o (omega (arith, t.is_named.within, t.is_named.owned)) t.reaches)
