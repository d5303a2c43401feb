-- A step that a message brings about says only what its list has. Assumes nothing.
use Rattle.std.proofs.Common.{◌≡◌, ℕ, Bool, true, false, cond, not, ◌||◌, ltb, leb, List, [], ◌∷◌, ◌++◌, length, Ok, Err, Result, refl}
use Rattle.refusal.specs.declared.Refusal.{Refusal}
use Rattle.refusal.specs.declared.Refusal.TheVariants.{NoCabinet, NoPosition, FrameField, Gap, Full, CommittedAltered, TooMuchAcknowledged, VoterAhead}
use Rattle.refusal.specs.Answers.{and_then, unless}
use Rattle.journal.specs.declared.Entry.{Entry}
use Rattle.frames.specs.Letters.{Letter, Content, candidate, promise, history, entry, acknowledge, commit}
use Rattle.frames.specs.Reading.{decode}
use Rattle.writing.specs.Replies.{has_named}
use Rattle.cabinet.specs.declared.Cabinet.{Cabinet}
use Rattle.cabinet.specs.declared.Reply.TheVariants.{Nothing, Promise, Commit}
use Rattle.cabinet.specs.Steps.{Step, Outcome, leaves, listed}
use Rattle.cabinet.specs.Records.{promises, gathers, raised}
use Rattle.cabinet.specs.Epochs.{later}
use Rattle.committing.specs.Committing.{elected, committing, winning}
use Rattle.acts.specs.Acts.{says_history}
use Rattle.messages.specs.Messages.{keeps_committed, adopt_step, follows_with, goes_on_with, says_commit}
use Rattle.reactions.specs.Reactions.{content_step, react, admitted, hear_step}

-- where the step is accepted, its list has what it says
abbrev pub Names : Outcome → Type 0
Names (Ok s) = has_named s.list s.reply ≡ true
Names (Err e) = Unit {0}

-- what is asked before a step does not matter
pub then_names : {A : Type 0} (r : Result A Refusal) (f : A → Outcome) → ((x : A) → Names (f x)) → Names (and_then r f)
then_names (Ok x) f names = names x
then_names (Err e) f names = tt

-- nor does a check
pub unless_names : (b : Bool) (e : Refusal) (o : Outcome) → Names o → Names (and_then (unless b e) (λ _. o))
unless_names b e o names = then_names (unless b e) (λ _. o) (λ _. names)

-- one of two outcomes names what both name
pub cond_names : (b : Bool) (o o' : Outcome) → Names o → Names o' → Names (cond b o o')
cond_names true o o' h k = h
cond_names false o o' h k = k

-- and so does one of two steps
pub step_names : (b : Bool) (s s' : Step) → Names (Ok s) → Names (Ok s') → Names (Ok (cond b s s'))
step_names true s s' h k = h
step_names false s s' h k = k

-- a commit names no entry, nor does nothing
pub commit_names : (l : List Entry) (b : Bool) (mark : ℕ) → has_named l (cond b (Commit mark) Nothing) ≡ true
commit_names l true mark = refl
commit_names l false mark = refl

-- a step of a cabinet whose list is there names what the step names
pub listed_names : (owners : ℕ) (ls : ℕ → List Entry) (i : ℕ) (c : Cabinet) (o : Outcome) → Names o → Names (listed owners ls i c o)
listed_names owners ls i c o names =
    cond_names (ltb i owners) (cond (leb c.mark (length (ls i))) o (Err NoPosition)) (Err NoCabinet) (cond_names (leb c.mark (length (ls i))) o (Err NoPosition) names tt) tt

module _ (quorum : ℕ → ℕ → Bool) (limit i : ℕ) (l : List Entry) (c : Cabinet) where
  -- each content
  pub content_names : (sender epoch : ℕ) (x : Content) → Names (content_step quorum limit i l c sender epoch x)
  content_names sender epoch (candidate accepted n) =
      unless_names (not (later (c.accepted, length l) (accepted, n))) VoterAhead (Ok (leaves (promises epoch c) l Promise)) refl
  content_names sender epoch promise = step_names (elected quorum l (gathers sender c)) (says_history l (winning quorum i l (gathers sender c))) (leaves (gathers sender c) l Nothing) refl refl
  content_names sender epoch (history mark es) =
      let replaces : Bool = ltb c.accepted epoch || ltb (length l) (length es) in
      let taken : Outcome = and_then (unless (keeps_committed l c es) CommittedAltered) (λ _. follows_with epoch mark c es) in
      unless_names (leb mark (length es)) FrameField (cond replaces (adopt_step limit l c epoch mark es) (follows_with epoch mark c l))
      (cond_names replaces (adopt_step limit l c epoch mark es) (follows_with epoch mark c l)
      (unless_names (leb (length es) limit) Full taken (unless_names (keeps_committed l c es) CommittedAltered (follows_with epoch mark c es) refl)) refl)
  content_names sender epoch (entry position mark e) =
      let room : Outcome = cond (ltb (length l) limit) (goes_on_with mark c (l ++ e ∷ [])) (Err Full) in
      let end : Outcome = cond (ltb (length l) position) (Err Gap) room in
      cond_names (ltb position (length l)) (goes_on_with mark c l) end refl
      (cond_names (ltb (length l) position) (Err Gap) room tt
      (cond_names (ltb (length l) limit) (goes_on_with mark c (l ++ e ∷ [])) (Err Full) refl tt))
  content_names sender epoch (acknowledge n) =
      let after : Cabinet = committing quorum i l (raised sender n c) in
      unless_names (leb n (length l)) TooMuchAcknowledged (Ok (leaves after l (says_commit c.mark after))) (commit_names l (ltb c.mark after.mark) after.mark)
  content_names sender epoch (commit mark) = refl

  -- every letter
  pub react_names : (t : Letter) → Names (react quorum limit i l c t)
  react_names t = then_names (admitted i c t) (λ _. content_step quorum limit i l c t.sender t.epoch t.content) (λ _. content_names t.sender t.epoch t.content)

  -- any bytes
  pub hear_names : (codes : ℕ → Bool) (cabinets : ℕ) (bytes : List ℕ) → Names (hear_step codes quorum cabinets limit i l c bytes)
  hear_names codes cabinets bytes = then_names (decode codes cabinets limit bytes) (react quorum limit i l c) react_names
