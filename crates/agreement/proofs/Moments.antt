-- All holds at every moment of a service. Assumes nothing.
use Rattle.std.proofs.Common.{◌≡◌, ℕ, zero, suc, ◌+◌, ◌*◌, ◌<◌, ◌≤◌, Bool, ltb, List, [], ◌∷◌, ◌++◌, length, take, None, Option, sym, refl, ap, ◌∙◌, subst, inl, inr, arith}
use Rattle.std.proofs.lemmas.List.{take_more, take_all, get_or_past, get_or-replicate, length-replicate}
use Rattle.std.proofs.lemmas.Bool.{cases_lt, cond-true, lt-ltb}
use Rattle.orders.specs.Kinds.{CodesFit}
use Rattle.quorum.specs.Rules.{ShareMember}
use Rattle.cabinet.specs.declared.Cabinet.{Cabinet}
use Rattle.receiving.specs.Readiness.{tray_length}
use Rattle.calls.specs.Stations.{Station, cabinets, cabinet_at, no_cabinet, new_cabinet, founding_entry, founded}
use Rattle.calls.specs.Calls.{Kind, codes, Call, start, outcome, after_call}
use Rattle.agreement.specs.Services.{after_calls, moment, call_at}
use Rattle.agreement.proofs.Prefix.{Agree, agree_refl, agree_on}
use Rattle.agreement.proofs.Ghost.{Ghost, founding_ghost, Event}
use Rattle.agreement.proofs.Growth.{Grow, grow_refl, grow_trans}
use Rattle.agreement.proofs.Steps.{founded_all}
use Rattle.agreement.proofs.Committed.{committed_there}
use Rattle.calls.proofs.Trays.{zeros_first}
use Rattle.agreement.proofs.Service.{Service, Next, refused}
use Rattle.agreement.proofs.Calling.{event_by, call_next}

-- one call more, at the end
after_push : {A : Type 0} (kind : Kind A) (quorum : ℕ → ℕ → Bool) (s : Station) (cs : List (Call A)) (c : Call A)
    → after_calls kind quorum s (cs ++ c ∷ []) ≡ after_call kind quorum (after_calls kind quorum s cs) c
after_push kind quorum s [] c = refl
after_push kind quorum s (b ∷ cs) c = after_push kind quorum (after_call kind quorum s b) cs c

module _ {A : Type 0} (kind : Kind A) (quorum : ℕ → ℕ → Bool) (founding : Station) (calls : List (Call A)) where
  -- the station at a moment of this service
  abbrev pub at : ℕ → Station
  at n = moment kind quorum founding calls n

  -- the call after a moment of this service
  abbrev pub the_call : ℕ → Call A
  the_call n = call_at kind quorum founding calls n

  -- what the call after a moment enters
  abbrev pub event_at : ℕ → Option Event
  event_at n = event_by (the_call n) (outcome kind quorum (at n) (the_call n))

  -- the next moment is the one after the call
  moment_next : (n : ℕ) → n < length calls → after_call kind quorum (at n) (the_call n) ≡ at (n + 1)
  moment_next n there =
      sym (after_push kind quorum founding (take n calls) (the_call n)) ∙ ap (after_calls kind quorum founding) (sym (take_more calls n (start 0) there))

  -- past the last call nothing changes
  moment_past : (n : ℕ) → length calls ≤ n → at n ≡ at (n + 1)
  moment_past n past = ap (after_calls kind quorum founding) (take_all n calls past ∙ sym (take_all (n + 1) calls (omega arith)))

  -- and nothing is entered
  pub event_past : (n : ℕ) → length calls ≤ n → event_at n ≡ None
  event_past n past = ap (λ (c : Call A). event_by c (outcome kind quorum (at n) c)) (get_or_past calls n (start 0) past)

  module _ (fit : CodesFit kind.proper kind.encode) (share : ShareMember quorum quorum) where
    -- all holds at the next moment
    next : (n : ℕ) (g : Ghost) → Service (codes kind) quorum event_at (cabinets founding) n g (at n) → Next (codes kind) quorum event_at (cabinets founding) n g (at n) (at (n + 1))
    next n g x =
        elim (cases_lt n (length calls)) [
          | inl there ↦
              subst (Next (codes kind) quorum event_at (cabinets founding) n g (at n)) (moment_next n there)
              (call_next kind quorum fit share event_at (cabinets founding) (the_call n) (outcome kind quorum (at n) (the_call n)) refl refl x)
          | inr past ↦
              subst (Next (codes kind) quorum event_at (cabinets founding) n g (at n)) (moment_past n past)
              (refused (codes kind) quorum event_at (cabinets founding) (event_past n past) x)
        ]

    -- what holds at a moment, seen from one that is not later
    pub record Later (m : ℕ) (g : Ghost) (n : ℕ) : Type 0 where
      pub ghost : Ghost
      pub grow : Grow g ghost
      pub service : Service (codes kind) quorum event_at (cabinets founding) n ghost (at n)
      pub rises : (j : ℕ) → (cabinet_at (at m) j).mark ≤ (cabinet_at (at n) j).mark
      pub keeps : (j : ℕ) → j < cabinets founding → Agree (cabinet_at (at m) j).mark ((at m).lists j) ((at n).lists j)

    -- all holds at every later moment
    pub later : (m : ℕ) (g : Ghost) → Service (codes kind) quorum event_at (cabinets founding) m g (at m) → (d : ℕ) → Later m g (m + d)
    later m g x zero =
        subst (Later m g) (let same : m ≡ m + 0 = omega arith in same)
        (record {
          ghost = g;
          grow = grow_refl g;
          service = x;
          rises = λ j. omega arith;
          keeps = λ j there. agree_refl (cabinet_at (at m) j).mark ((at m).lists j) (committed_there x.inv j there);
        })
    later m g x (suc d) =
        let y = later m g x d in
        let z = next (m + d) y.ghost y.service in
        subst (Later m g) (let same : m + d + 1 ≡ m + suc d = omega arith in same)
        (record {
          ghost = z.ghost;
          grow = grow_trans y.grow z.grow;
          service = z.service;
          rises = λ j. omega (arith, y.rises j, z.rises j);
          keeps = λ j there. agree_on (y.keeps j there) (z.keeps j there) (y.rises j);
        })

-- all holds at the founding, before any call
pub founded_service : (codes : ℕ → Bool) (quorum : ℕ → ℕ → Bool) (event : ℕ → Option Event) (s : Station) (members : ℕ)
    → Service codes quorum event (cabinets (founded s members)) 0 (founding_ghost (founding_entry members)) (founded s members)
founded_service codes quorum event s members =
    let n = cabinets s in
    let size : cabinets (founded s members) ≡ n = length-replicate n new_cabinet in
    let new : (i : ℕ) → i < cabinets (founded s members) → cabinet_at (founded s members) i ≡ new_cabinet = λ i there. get_or-replicate n i new_cabinet no_cabinet (omega arith) in
    record {
      inv = founded_all event quorum quorum (cabinets (founded s members)) 0 (founding_entry members) (cabinet_at (founded s members)) (founded s members).lists refl
          (λ k past. absurd (let z : ⊥ = omega arith in z))
          (λ i there. (
            ap (λ (c : Cabinet). c.accepted) (new i there),
            ap (λ (c : Cabinet). c.mark) (new i there),
            ap (λ (c : Cabinet). c.role) (new i there),
            cond-true (ltb i n) _ _ (lt-ltb i n (omega arith)),
          ));
      size = refl;
      narrow = λ i there. subst (λ (c : Cabinet). c.promised < 4294967296) (sym (new i there)) (omega arith);
      trays = λ k t filled read. absurd (filled (zeros_first (length s.trays) (k * tray_length s.limit) (k * tray_length s.limit + tray_length s.limit)));
    }
