-- What a run determines beside the cabinets, and what always holds of it. Assumes nothing.
use Rattle.std.proofs.Common.{◌≡◌, ℕ, ◌<◌, ◌≤◌, Bool, true, false, cond, eqb, List, [], ◌∷◌, length, get_or, Some, None, Option}
use Rattle.quorum.specs.Sets.{has}
use Rattle.journal.specs.declared.Entry.{Entry}
use Rattle.journal.specs.Entries.{blank}
use Rattle.frames.specs.Letters.{Letter, Content, candidate, promise, history, entry, acknowledge, commit}
use Rattle.cabinet.specs.declared.Cabinet.{Cabinet}
use Rattle.cabinet.specs.Epochs.{owner_of}
use Rattle.configurations.specs.Configurations.{configures, members_at, members_before}
use Rattle.agreement.proofs.Prefix.{Agree}

-- what no cabinet holds: by epoch the leader's list, the list and mark it won with, its highest mark; what each cabinet held; votes; candidates
pub record Ghost : Type 0 where
  pub won : ℕ → Bool
  pub log : ℕ → List Entry
  pub base : ℕ → List Entry
  pub m0 : ℕ → ℕ
  pub top : ℕ → ℕ
  pub held : ℕ → ℕ → ℕ
  pub cast : ℕ → ℕ → Bool
  pub vote_accepted : ℕ → ℕ → ℕ
  pub vote_length : ℕ → ℕ → ℕ
  pub stood : ℕ → Bool
  pub cand_accepted : ℕ → ℕ
  pub cand_list : ℕ → List Entry

-- at the founding epoch 0 counts as won, with the founding entry committed and held by all
abbrev pub founding_ghost : Entry → Ghost
founding_ghost x =
    record {
      won = λ e. eqb e 0;
      log = λ e. x ∷ [];
      base = λ e. x ∷ [];
      m0 = λ e. 1;
      top = λ e. 1;
      held = λ e j. cond (eqb e 0) 1 0;
      cast = λ e j. false;
      vote_accepted = λ e j. 0;
      vote_length = λ e j. 0;
      stood = λ e. false;
      cand_accepted = λ e. 0;
      cand_list = λ e. [];
    }

-- the first m entries of a list were committed by the leader of a won epoch up to a
pub record Cover (g : Ghost) (a m : ℕ) (l : List Entry) : Type 0 where
  pub source : ℕ
  pub is_won : g.won source ≡ true
  pub below : source ≤ a
  pub within : m ≤ g.top source
  pub agrees : Agree m (g.log source) l

-- a list of a won epoch: it goes on from the winner's and is a beginning of the leader's
pub record Follows (g : Ghost) (e : ℕ) (l : List Entry) : Type 0 where
  pub is_won : g.won e ≡ true
  pub from_base : Agree (length (g.base e)) (g.base e) l
  pub in_log : Agree (length l) l (g.log e)

-- a history is a list of its epoch, its mark covered
pub record ValidHistory (g : Ghost) (sender e m : ℕ) (l : List Entry) : Type 0 where
  pub sent : sender ≡ owner_of e
  pub follows : Follows g e l
  pub cover : Cover g e m l

-- an entry stands in the leader's list at its position, past what the epoch was won with
pub record ValidEntry (g : Ghost) (sender e q m : ℕ) (x : Entry) : Type 0 where
  pub sent : sender ≡ owner_of e
  pub is_won : g.won e ≡ true
  pub late : length (g.base e) ≤ q
  pub there : q < length (g.log e)
  pub at : get_or (g.log e) q blank ≡ x
  pub cover : Cover g e m (g.log e)

-- a commit's mark is covered on the leader's list
pub record ValidCommit (g : Ghost) (sender e m : ℕ) : Type 0 where
  pub sent : sender ≡ owner_of e
  pub is_won : g.won e ≡ true
  pub cover : Cover g e m (g.log e)

-- a candidate's epoch was stood at, with this accepted epoch and length
pub record ValidCandidate (g : Ghost) (e a n : ℕ) : Type 0 where
  pub stood : g.stood e ≡ true
  pub accepted : g.cand_accepted e ≡ a
  pub list : length (g.cand_list e) ≡ n

-- what a content says is true
abbrev pub ValidContent : Ghost → ℕ → ℕ → Content → Type 0
ValidContent g sender e (candidate accepted n) = ValidCandidate g e accepted n
ValidContent g sender e promise = g.cast e sender ≡ true
ValidContent g sender e (history mark l) = ValidHistory g sender e mark l
ValidContent g sender e (entry position mark x) = ValidEntry g sender e position mark x
ValidContent g sender e (acknowledge n) = n ≤ g.held e sender
ValidContent g sender e (commit mark) = ValidCommit g sender e mark

-- what a letter says is true
pub record Valid (g : Ghost) (t : Letter) : Type 0 where
  pub true_content : ValidContent g t.sender t.epoch t.content

-- what a letter says is true, where there is one
abbrev pub ValidSaid : Ghost → Option Letter → Type 0
ValidSaid g (Some t) = Valid g t
ValidSaid g None = Unit {0}

-- who stands does so with the list of its candidature, at an epoch of its own that nobody has won, and those it gathered voted
pub record Standing (g : Ghost) (i : ℕ) (c : Cabinet) (l : List Entry) : Type 0 where
  pub owned : owner_of c.promised ≡ i
  pub above : c.accepted < c.promised
  pub unwon : g.won c.promised ≡ false
  pub stood : g.stood c.promised ≡ true
  pub accepted : g.cand_accepted c.promised ≡ c.accepted
  pub list : g.cand_list c.promised ≡ l
  pub gathered : (j : ℕ) → has c.gathered j ≡ true → g.cast c.promised j ≡ true

-- who leads has the leader's list and mark, at an epoch of its own, and the lengths it knows are held
pub record Leading (g : Ghost) (i : ℕ) (c : Cabinet) (l : List Entry) : Type 0 where
  pub owned : owner_of c.promised ≡ i
  pub positive : 0 < c.promised
  pub accepted : c.accepted ≡ c.promised
  pub whole : l ≡ g.log c.promised
  pub topmost : c.mark ≡ g.top c.promised
  pub known : (j : ℕ) → get_or c.acknowledged j 0 ≤ g.held c.promised j

-- what holds of cabinet i with its record and list
pub record Holds (g : Ghost) (i : ℕ) (c : Cabinet) (l : List Entry) : Type 0 where
  pub follows : Follows g c.accepted l
  pub accepted_most : c.accepted ≤ c.promised
  pub holds : g.held c.accepted i ≡ length l
  pub no_later : (e : ℕ) → c.accepted < e → g.held e i ≡ 0
  pub mark_least : 1 ≤ c.mark
  pub cover : Cover g c.accepted c.mark l
  pub standing : c.role ≡ 1 → Standing g i c l
  pub leading : c.role ≡ 2 → Leading g i c l

-- cabinet j, which has promised p, voted at e by what it had accepted and held, and that was not later than what the candidate had
pub record Vote (g : Ghost) (p e j : ℕ) : Type 0 where
  pub stood : g.stood e ≡ true
  pub before : g.vote_accepted e j < e
  pub kept : e ≤ p
  pub nothing_between : (k : ℕ) → g.vote_accepted e j < k → k < e → g.held k j ≡ 0
  pub no_more : g.held (g.vote_accepted e j) j ≤ g.vote_length e j
  pub not_later : g.vote_accepted e j ≤ g.cand_accepted e
  pub not_longer : g.vote_accepted e j ≡ g.cand_accepted e → g.vote_length e j ≤ length (g.cand_list e)

-- an epoch above 0 was won by a candidate whose list its voters let pass, with a mark covered before
pub record Winner (elects : ℕ → ℕ → Bool) (g : Ghost) (e : ℕ) : Type 0 where
  pub opens : Agree 1 (g.log 0) (g.base e)
  pub grown : Agree (length (g.base e)) (g.base e) (g.log e)
  pub stood : g.stood e ≡ true
  pub chosen : g.cand_list e ≡ g.base e
  pub earlier : g.cand_accepted e < e
  pub follows : Follows g (g.cand_accepted e) (g.base e)
  pub mark_least : 1 ≤ g.m0 e
  pub mark_most : g.m0 e ≤ g.top e
  pub cover : Cover g (g.cand_accepted e) (g.m0 e) (g.base e)
  pub voters : ℕ
  pub voted : (j : ℕ) → has voters j ≡ true → g.cast e j ≡ true
  pub quorate : (p : ℕ) → p < length (g.base e) → configures (g.base e) p ≡ true → ((k : ℕ) → p < k → k < g.m0 e → configures (g.base e) k ≡ false)
      → elects (members_at (g.base e) p) voters ≡ true

-- some cabinets that hold the entry at q in epoch e commit it, by the members before it
pub record Carried (commits : ℕ → ℕ → Bool) (g : Ghost) (e q : ℕ) : Type 0 where
  pub set : ℕ
  pub quorate : commits (members_before (g.log e) q) set ≡ true
  pub hold : (j : ℕ) → has set j ≡ true → q < g.held e j

-- what stands of epoch 0
pub record Founded (g : Ghost) : Type 0 where
  pub is_won : g.won 0 ≡ true
  pub top_one : g.top 0 ≡ 1
  pub filled : 1 ≤ length (g.log 0)
  pub configured : configures (g.log 0) 0 ≡ true

-- what was entered: the entry, its position and the epoch of the leader
pub record Event : Type 0 where
  pub epoch : ℕ
  pub position : ℕ
  pub entry : Entry

-- the event of an entry at a position
abbrev pub event_of : ℕ → Entry → Event
event_of q x = record { epoch = x.epoch; position = q; entry = x }

-- what was entered stands in its leader's list
pub record Entered (g : Ghost) (v : Event) : Type 0 where
  pub is_won : g.won v.epoch ≡ true
  pub late : length (g.base v.epoch) ≤ v.position
  pub there : v.position < length (g.log v.epoch)
  pub at : get_or (g.log v.epoch) v.position blank ≡ v.entry
  pub own : v.entry.epoch ≡ v.epoch

-- a call before now entered the entry at q
pub record Origin (event : ℕ → Option Event) (now q : ℕ) (x : Entry) : Type 0 where
  pub call : ℕ
  pub past : call < now
  pub entered : event call ≡ Some (event_of q x)

-- the entries of a list: all but the first were entered, their epochs never fall and are at most e
pub record Entries (event : ℕ → Option Event) (now e : ℕ) (l : List Entry) : Type 0 where
  pub origin : (q : ℕ) → 1 ≤ q → q < length l → Origin event now q (get_or l q blank)
  pub rising : (p q : ℕ) → p ≤ q → q < length l → (get_or l p blank).epoch ≤ (get_or l q blank).epoch
  pub most : (q : ℕ) → q < length l → (get_or l q blank).epoch ≤ e

-- no two calls before now entered at one epoch and position
abbrev pub Unique : (ℕ → Option Event) → ℕ → Type 0
Unique event now = (k m : ℕ) (v w : Event) → k < now → m < now → event k ≡ Some v → event m ≡ Some w → v.epoch ≡ w.epoch → v.position ≡ w.position → k ≡ m

-- what holds of n cabinets, after so many calls
pub record Inv (event : ℕ → Option Event) (elects commits : ℕ → ℕ → Bool) (n now : ℕ) (g : Ghost) (cabs : ℕ → Cabinet) (lists : ℕ → List Entry) : Type 0 where
  pub cabinets : (i : ℕ) → i < n → Holds g i (cabs i) (lists i)
  pub votes : (e j : ℕ) → g.cast e j ≡ true → Vote g (cabs j).promised e j
  pub stands : (e : ℕ) → g.stood e ≡ true → e ≤ (cabs (owner_of e)).promised
  pub founded : Founded g
  pub winners : (e : ℕ) → g.won e ≡ true → 0 < e → Winner elects g e
  pub reach : (e : ℕ) → g.won e ≡ true → g.top e ≤ length (g.log e)
  pub carried : (e q : ℕ) → g.won e ≡ true → 0 < e → g.m0 e ≤ q → q < g.top e → Carried commits g e q
  pub entries : (e : ℕ) → g.won e ≡ true → Entries event now e (g.log e)
  pub events : (k : ℕ) (v : Event) → k < now → event k ≡ Some v → Entered g v
  pub unique : Unique event now
