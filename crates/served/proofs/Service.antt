-- The service, by computing. Assumes nothing.
use Rattle.std.proofs.Common.{◌≡◌, ℕ, zero, suc, ◌<◌, Bool, true, ◌&&◌, List, [], ◌∷◌, length, get_or, take, is_ok, refl, le_of_suc-le-suc, not-suc-le-zero}
use Rattle.std.proofs.lemmas.Bool.{and_parts}
use Rattle.quorum.specs.Sets.{weigh}
use Rattle.quorum.specs.MajorityRule.{majority}
use Rattle.cabinet.specs.Records.{holders_below}
use Rattle.cabinet.specs.Soundness.{none_above}
use Rattle.configurations.specs.Configurations.{last_before, members_before, version_before, each_from}
use Rattle.committing.specs.Committing.{risen}
use Rattle.messages.specs.Messages.{same_front}
use Rattle.calls.specs.Stations.{Station, founded}
use Rattle.calls.specs.Calls.{Kind, Call, start, outcome, after_call}
use Rattle.agreement.specs.Services.{after_calls}
use Rattle.served.specs.Served.{Served, points, parts, calls}

module _ {A : Type 0} (kind : Kind A) (quorum : ℕ → ℕ → Bool) where
  -- whether each of these calls is accepted, one after another
  abbrev each_accepted : Station → List (Call A) → Bool
  each_accepted s [] = true
  each_accepted s (c ∷ cs) = is_ok (outcome kind quorum s c) && each_accepted (after_call kind quorum s c) cs

  -- then each is accepted at its moment
  at_its_moment : (s : Station) (cs : List (Call A)) → each_accepted s cs ≡ true → (n : ℕ) → n < length cs
      → is_ok (outcome kind quorum (after_calls kind quorum s (take n cs)) (get_or cs n (start 0))) ≡ true
  at_its_moment s [] e n h = absurd (not-suc-le-zero h)
  at_its_moment s (c ∷ cs) e zero h = (and_parts (is_ok (outcome kind quorum s c)) (each_accepted (after_call kind quorum s c) cs) e).0
  at_its_moment s (c ∷ cs) e (suc n) h =
      let rest = (and_parts (is_ok (outcome kind quorum s c)) (each_accepted (after_call kind quorum s c) cs) e).1 in
      at_its_moment (after_call kind quorum s c) cs rest n (le_of_suc-le-suc h)

-- every call is accepted
all_accepted : each_accepted points majority (founded parts 7) calls ≡ true
unfolding weigh holders_below none_above last_before members_before version_before each_from risen same_front
all_accepted = refl

-- what comes of the service
pub served : Served
unfolding weigh holders_below none_above last_before members_before version_before each_from risen same_front
served = record {
  founding_accepted = refl;
  calls_accepted = at_its_moment points majority (founded parts 7) calls all_accepted;
  first_leader = record { role = refl; promised = refl };
  order_committed = refl;
  order_heard = refl;
  change_held = refl;
  change_copied = refl;
  change_waits = refl;
  stopped = refl;
  next_leader = record { role = refl; promised = refl };
  change_committed = refl;
  second_committed = refl;
  second_heard = refl;
  second_missed = refl;
  returned = refl;
}
