-- What follows for committed lists, at one moment and between two. Assumes nothing.
use Rattle.std.proofs.Common.{◌≡◌, ℕ, ◌<◌, ◌≤◌, Bool, List, ◌++◌, length, get_or, take, drop, Some, Option, sym, ap, ◌∙◌, subst, arith}
use Rattle.std.proofs.lemmas.List.{take-append-drop, take-take}
use Rattle.quorum.specs.Rules.{ShareMember}
use Rattle.journal.specs.declared.Entry.{Entry}
use Rattle.journal.specs.Entries.{blank}
use Rattle.cabinet.specs.declared.Cabinet.{Cabinet}
use Rattle.agreement.proofs.Prefix.{Agree, agree_sym, agree_trans, agree_down, agree_on, agree_at}
use Rattle.agreement.proofs.Ghost.{Entered, Ghost, Event, event_of, Entries, Inv}
use Rattle.agreement.proofs.Growth.{Grow, grow_refl, cover_grows}
use Rattle.agreement.proofs.MainLemma.{holds_committed, comparable}

-- of two fronts of lists one is a beginning of the other
pub record Comparable (m : ℕ) (l : List Entry) (k : ℕ) (r : List Entry) : Type 0 where
  pub shorter : m ≤ k → Agree m l r
  pub longer : k ≤ m → Agree k r l

-- an agreement as a beginning: the first list's front, and what the second one's has more
pub front_goes_on : {m : ℕ} {l r : List Entry} (k : ℕ) → m ≤ k → Agree m l r → (t : List Entry) × (take m l ++ t ≡ take k r)
front_goes_on {m} {l} {r} k less a =
    (drop m (take k r), ap (λ (x : List Entry). x ++ drop m (take k r)) (a.same ∙ sym (take-take m k r less)) ∙ take-append-drop m (take k r))

-- the entry at q was entered by one call before now, and by no other
pub record EnteredOnce (event : ℕ → Option Event) (now q : ℕ) (x : Entry) : Type 0 where
  pub call : ℕ
  pub past : call < now
  pub entered : event call ≡ Some (event_of q x)
  pub only_one : (k : ℕ) (v : Event) → k < now → event k ≡ Some v → v.epoch ≡ x.epoch → v.position ≡ q → k ≡ call

module _ {event : ℕ → Option Event} {elects commits : ℕ → ℕ → Bool} {n : ℕ} (share : ShareMember elects commits) where
  -- between a moment and a later one, of any two cabinets the committed lists are comparable
  pub committed_comparable : {now now' : ℕ} {g h : Ghost} {cabs cabs' : ℕ → Cabinet} {lists lists' : ℕ → List Entry}
      → Inv event elects commits n now g cabs lists → Inv event elects commits n now' h cabs' lists' → Grow g h
      → (i j : ℕ) → i < n → j < n → Comparable (cabs i).mark (lists i) (cabs' j).mark (lists' j)
  committed_comparable before after grow i j in-i in-j =
      let first = cover_grows grow (before.cabinets i in-i).cover in
      let second = (after.cabinets j in-j).cover in
      record { shorter = λ less. comparable share after first second less; longer = λ more. comparable share after second first more }

  -- the same at one moment
  pub committed_now : {now : ℕ} {g : Ghost} {cabs : ℕ → Cabinet} {lists : ℕ → List Entry} → Inv event elects commits n now g cabs lists → (i j : ℕ) → i < n
      → j < n → Comparable (cabs i).mark (lists i) (cabs j).mark (lists j)
  committed_now {g = g} inv = committed_comparable inv inv (grow_refl g)

  -- who has accepted an epoch holds all that was ever committed under a lower one
  pub later_holds : {now now' : ℕ} {g h : Ghost} {cabs cabs' : ℕ → Cabinet} {lists lists' : ℕ → List Entry} → Inv event elects commits n now g cabs lists
      → Inv event elects commits n now' h cabs' lists' → Grow g h
      → (i j : ℕ) → i < n → j < n → (cabs i).accepted < (cabs' j).accepted → Agree (cabs i).mark (lists i) (lists' j)
  later_holds {cabs = cabs} {cabs' = cabs'} before after grow i j in-i in-j less =
      let first = cover_grows grow (before.cabinets i in-i).cover in
      let x = (after.cabinets j in-j).follows in
      let passed = holds_committed share after first.source (cabs' j).accepted first.is_won x.is_won (omega (arith, first.below)) in
      agree_trans (agree_sym first.agrees) (agree_on (agree_down (cabs i).mark first.within passed) x.from_base (omega (arith, first.within, passed.right)))

module _ {event : ℕ → Option Event} {elects commits : ℕ → ℕ → Bool} {n now : ℕ} {g : Ghost} {cabs : ℕ → Cabinet} {lists : ℕ → List Entry}
    (inv : Inv event elects commits n now g cabs lists) (i : ℕ) (within : i < n) where
  -- the list's entries are those of its leader's list
  in_log : Agree (length (lists i)) (lists i) (g.log (cabs i).accepted)
  in_log = (inv.cabinets i within).follows.in_log

  -- what holds of the entries of its leader's list
  theirs : Entries event now (cabs i).accepted (g.log (cabs i).accepted)
  theirs = inv.entries (cabs i).accepted (inv.cabinets i within).follows.is_won

  -- the committed entries are in the list
  pub committed_there : (cabs i).mark ≤ length (lists i)
  committed_there = (inv.cabinets i within).cover.agrees.right

  -- at least the founding entry is committed
  pub committed_least : 1 ≤ (cabs i).mark
  committed_least = (inv.cabinets i within).mark_least

  -- each entry of a list but the first was entered by exactly one call
  pub listed_once : (q : ℕ) → 1 ≤ q → q < length (lists i) → EnteredOnce event now q (get_or (lists i) q blank)
  listed_once q first there =
      let o = theirs.origin q first (omega (arith, in_log.right)) in
      subst (EnteredOnce event now q) (sym (agree_at in_log q there))
      (record {
        call = o.call;
        past = o.past;
        entered = o.entered;
        only_one = λ k v past is same-epoch same_place. inv.unique k o.call v (event_of q (get_or (g.log (cabs i).accepted) q blank)) past o.past is o.entered same-epoch same_place;
      })

  -- and stands at its position in the list of the leader of its own epoch
  pub listed_own : (q : ℕ) → 1 ≤ q → q < length (lists i) → Entered g (event_of q (get_or (lists i) q blank))
  listed_own q first there =
      let o = listed_once q first there in
      inv.events o.call (event_of q (get_or (lists i) q blank)) o.past o.entered

  -- each committed entry was entered by exactly one call
  pub committed_once : (q : ℕ) → 1 ≤ q → q < (cabs i).mark → EnteredOnce event now q (get_or (lists i) q blank)
  committed_once q first there = listed_once q first (omega (arith, committed_there))

  -- epochs along a list never fall
  pub epochs_rise : (p q : ℕ) → p ≤ q → q < length (lists i) → (get_or (lists i) p blank).epoch ≤ (get_or (lists i) q blank).epoch
  epochs_rise p q order there =
      omega (arith, theirs.rising p q order (omega (arith, in_log.right)), ap (λ (x : Entry). x.epoch) (agree_at in_log p (omega arith)), ap (λ (x : Entry). x.epoch) (agree_at in_log q there))

  -- and are at most the accepted one
  pub epochs_most : (q : ℕ) → q < length (lists i) → (get_or (lists i) q blank).epoch ≤ (cabs i).accepted
  epochs_most q there = omega (arith, theirs.most q (omega (arith, in_log.right)), ap (λ (x : Entry). x.epoch) (agree_at in_log q there))
