-- The checks of a hand, and what follows them. Assumes nothing.
use Rattle.std.proofs.Common.{◌≡◌, ℕ, ◌+◌, ◌<◌, ◌≤◌, Bool, not, length, Ok, Err, Result, sym, refl, ap, ◌∙◌, arith}
use Rattle.std.specs.Prelude.{◌==◌, slice_index}
use Rattle.refusal.specs.declared.Refusal.{Refusal}
use Rattle.refusal.specs.declared.Refusal.TheVariants.{EmptyTray}
use Rattle.refusal.specs.Answers.{and_then, unless}
use Rattle.cabinet.specs.Steps.{Outcome, listed}
use Rattle.cabinet.proofs.Listed.{listed_ok}
use Rattle.receiving.specs.Readiness.{tray_length}
use Rattle.receiving.proofs.Passing.{ready_tells}
use Rattle.reactions.specs.Reactions.{hear_step}
use Rattle.calls.specs.Stations.{Station, cabinets, cabinet_at, tray_at, tray_start, named, has_tray, ready_at}
use Rattle.calls.specs.Calls.{hand_call}
use Rattle.station.specs.Acting.{handed}
use Rattle.station.proofs.Refusing.{Named, both_accepted, named_tells, tray_tells}

-- five checks one after another, and then a step
pub five_then : (a b c d e : Result (Unit {0}) Refusal) (o : Outcome)
    → and_then a (λ _. and_then b (λ _. and_then c (λ _. and_then d (λ _. and_then e (λ _. o))))) ≡ and_then (and_then a (λ _. and_then b (λ _. and_then c (λ _. and_then d (λ _. e))))) (λ _. o)
five_then (Ok x) (Ok y) (Ok z) (Ok w) e o = refl
five_then (Ok x) (Ok y) (Ok z) (Err f) e o = refl
five_then (Ok x) (Ok y) (Err f) d e o = refl
five_then (Ok x) (Err f) c d e o = refl
five_then (Err f) b c d e o = refl

module _ (codes : ℕ → Bool) (quorum : ℕ → ℕ → Bool) (s : Station) (from i to : ℕ) where
  -- what the tray's bytes do to the cabinet
  abbrev pub heard : Outcome
  heard = hear_step codes quorum (cabinets s) s.limit i (s.lists i) (cabinet_at s i) (tray_at s from)

  -- whether the tray that is handed holds a frame
  abbrev holds_frame : Result (Unit {0}) Refusal
  holds_frame = unless (not (slice_index (tray_at s from) 0 == 0)) EmptyTray

  -- what it tells that the checks have passed
  pub record Handed : Type 0 where
    pub is_named : Named s i
    pub from_there : tray_start s from + tray_length s.limit ≤ length s.trays
    pub to_there : tray_start s to + tray_length s.limit ≤ length s.trays
    pub reaches : (cabinet_at s i).mark ≤ length (s.lists i)

  pub handed_tells : Ok tt ≡ handed codes s from i to → Handed
  handed_tells told =
      let first = both_accepted (named s i) (λ _. and_then (has_tray s from) (λ _. and_then (has_tray s to) (λ _. and_then holds_frame (λ _. ready_at codes s i)))) tt told in
      let second = both_accepted (has_tray s from) (λ _. and_then (has_tray s to) (λ _. and_then holds_frame (λ _. ready_at codes s i))) tt first.1 in
      let third = both_accepted (has_tray s to) (λ _. and_then holds_frame (λ _. ready_at codes s i)) tt second.1 in
      let fourth = both_accepted holds_frame (λ _. ready_at codes s i) tt third.1 in
      record {
        is_named = named_tells s i first.0;
        from_there = tray_tells s from second.0;
        to_there = tray_tells s to third.0;
        reaches = ready_tells codes (cabinets s) s.limit i (s.lists i) (cabinet_at s i) fourth.1;
      }

  -- a hand whose checks have passed does what the bytes say
  pub hands : Ok tt ≡ handed codes s from i to → hand_call codes quorum s from i to ≡ listed s.owners s.lists i (cabinet_at s i) heard
  hands told =
      let t = handed_tells told in
      five_then (named s i) (has_tray s from) (has_tray s to) holds_frame (ready_at codes s i) heard
      ∙ sym (ap (λ (r : Result (Unit {0}) Refusal). and_then r (λ _. heard)) told)
      ∙ sym (listed_ok s.owners s.lists i (cabinet_at s i) heard (omega (arith, t.is_named.within, t.is_named.owned)) t.reaches)
