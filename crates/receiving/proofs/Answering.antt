-- What is written after a step. Assumes nothing.
use Rattle.std.proofs.Common.{◌≡◌, ℕ, ◌<◌, ◌≤◌, Bool, true, eqb, ltb, List, length, Ok, Err, Option, Result, sym, refl, ap, ◌∙◌, ap₂, arith}
use Rattle.std.proofs.lemmas.Bool.{cond-true, lt-ltb, le-leb, eq-eqb}
use Rattle.refusal.specs.declared.Refusal.{Refusal}
use Rattle.refusal.specs.declared.Refusal.TheVariants.{NoCabinet, NoTray, NoPosition}
use Rattle.refusal.specs.Answers.{and_then, unless}
use Rattle.journal.specs.declared.Entry.{Entry as ListEntry}
use Rattle.cabinet.specs.declared.Cabinet.{Cabinet}
use Rattle.cabinet.specs.declared.Reply.{Reply}
use Rattle.cabinet.specs.declared.Reply.TheVariants.{Nothing, Candidate, Promise, History, Entry, Acknowledge, Commit}
use Rattle.cabinet.specs.Steps.{Outcome, left_by, lists_by, said_by}
use Rattle.frames.specs.Letters.{Letter}
use Rattle.writing.specs.Speaking.{letter_said, letter_after, spoken_length, spoken_into, answer_by, buffer_by}
use Rattle.writing.specs.Replies.{has_named, spoken_answer, reply_answer}
use Rattle.receiving.specs.Readiness.{tray_length}
use Rattle.receiving.proofs.Naming.{Names}

-- what is said of a list within the limit fits a tray
pub said_fits : (i epoch limit : ℕ) (l : List ListEntry) (r : Reply) → 1 ≤ limit → length l ≤ limit → spoken_length (letter_said i epoch l r) ≤ tray_length limit
said_fits i epoch limit l Nothing least short = omega arith
said_fits i epoch limit l (Candidate accepted n) least short = omega arith
said_fits i epoch limit l Promise least short = omega arith
said_fits i epoch limit l (History mark) least short = omega arith
said_fits i epoch limit l (Entry position mark) least short = omega arith
said_fits i epoch limit l (Acknowledge n) least short = omega arith
said_fits i epoch limit l (Commit mark) least short = omega arith

-- it is written, into a buffer of a tray's length
pub written_reply : (owners limit room i epoch : ℕ) (l : List ListEntry) (r : Reply) → i < owners → 1 ≤ limit → length l ≤ limit → tray_length limit ≤ room → has_named l r ≡ true
    → reply_answer owners i room i epoch l r ≡ Ok (spoken_length (letter_said i epoch l r))
written_reply owners limit room i epoch l r owner least short roomy named =
    cond-true (ltb i owners) (and_then (unless (has_named l r) NoPosition) (λ _. spoken_answer room (letter_said i epoch l r))) (Err NoCabinet) (lt-ltb i owners owner)
    ∙ ap (λ (b : Bool). and_then (unless b NoPosition) (λ _. spoken_answer room (letter_said i epoch l r))) named
    ∙ ap (λ (b : Bool). and_then (unless b NoTray) (λ _. Ok (spoken_length (letter_said i epoch l r)))) (le-leb (spoken_length (letter_said i epoch l r)) room (let fits = said_fits i epoch limit l r least short in omega arith))

-- accepted answers are the same where they are equal
pub ok_same : {n m : ℕ} → ◌≡◌ {A = Result ℕ Refusal} (Ok n) (Ok m) → n ≡ m
ok_same same = cc

-- a step that is refused says so
pub refused_step : (o : Outcome) (e : Refusal) → Err e ≡ said_by o → o ≡ Err e
refused_step (Ok s) e told = absurd (let z : ◌≡◌ {A = ℕ} 0 1 = cc in omega arith)
refused_step (Err f) e told = cc

module _ (owners limit i : ℕ) (ls ls' : ℕ → List ListEntry) (c d : Cabinet) (reply : Reply) (out : List ℕ) (owner : i < owners) (least : 1 ≤ limit) (short : length (ls' i) ≤ limit) (roomy : tray_length limit ≤ length out) where
  -- what a step says is written into a buffer of a tray's length, and answered by its length
  pub spoken : (o : Outcome) → Ok reply ≡ said_by o → d ≡ left_by c o → ls' i ≡ lists_by ls i o i → Names o
      → (reply_answer owners i (length out) i d.promised (ls' i) reply ≡ Ok (spoken_length (letter_said i d.promised (ls' i) reply)))
      × (answer_by i o ≡ Ok (0, spoken_length (letter_said i d.promised (ls' i) reply)))
      × (buffer_by out i o ≡ spoken_into out (letter_said i d.promised (ls' i) reply))
  spoken (Ok s) told left lists names =
      let same : reply ≡ s.reply = cc in
      let own : ls' i ≡ s.list = lists ∙ cond-true (eqb i i) s.list (ls i) (eq-eqb i i refl) in
      let named : has_named (ls' i) reply ≡ true = ap₂ has_named own same ∙ names in
      let letter : letter_after i s ≡ letter_said i d.promised (ls' i) reply = sym (ap₂ (λ (x : Cabinet) (l : List ListEntry). letter_said i x.promised l reply) left own ∙ ap (letter_said i s.cabinet.promised s.list) same) in
      (written_reply owners limit (length out) i d.promised (ls' i) reply owner least short roomy named, ap (λ (t : Option Letter). Ok (0, spoken_length t)) letter, ap (spoken_into out) letter)
  spoken (Err e) told left lists names = absurd (let z : ◌≡◌ {A = ℕ} 0 1 = cc in omega arith)
