-- What a call leaves once its step is refused, or accepted and its words are written. Assumes nothing.
use Rattle.std.proofs.Common.{◌≡◌, ℕ, ◌+◌, ◌<◌, ◌≤◌, List, length, set, Some, None, Ok, Err, Option, Result, sym, refl, ap, ◌∙◌, arith}
use Rattle.std.proofs.Math.Path.{fun_ext}
use Rattle.refusal.specs.declared.Refusal.{Refusal}
use Rattle.refusal.specs.Answers.{and_then}
use Rattle.journal.specs.declared.Entry.{Entry}
use Rattle.frames.specs.Letters.{Letter}
use Rattle.cabinet.specs.declared.Cabinet.{Cabinet}
use Rattle.cabinet.specs.declared.Reply.{Reply}
use Rattle.cabinet.specs.Steps.{Outcome, left_by, lists_by, said_by}
use Rattle.writing.specs.Speaking.{letter_said, letter_after, spoken_into, answer_by}
use Rattle.writing.specs.Writing.{over}
use Rattle.writing.specs.Replies.{filled_by}
use Rattle.receiving.specs.Readiness.{tray_length}
use Rattle.receiving.proofs.Naming.{Names}
use Rattle.receiving.proofs.Answering.{spoken, refused_step}
use Rattle.calls.specs.Stations.{Station, station, cabinet_at, tray_at, tray_start, trays_after, station_after}
use Rattle.calls.proofs.Trays.{over_same, part_long}
use Rattle.station.specs.Acting.{said_answer, said_trays}
use Rattle.station.proofs.Refusing.{same_table}

-- the trays with what is said in tray k
trays_said : (s : Station) (k : ℕ) (t : Option Letter) → tray_start s k + tray_length s.limit ≤ length s.trays → over s.trays (tray_start s k) (spoken_into (tray_at s k) t) ≡ trays_after s k t
trays_said s k None room = over_same s.trays (tray_start s k) (tray_length s.limit) room
trays_said s k (Some t) room = refl

-- the lists that a call leaves are its step's
lists_left : (s : Station) (i k : ℕ) (o : Outcome) (p : ℕ) → lists_by s.lists i o p ≡ (station_after s i k o).lists p
lists_left s i k (Ok step) p = refl
lists_left s i k (Err e) p = refl

-- a call leaves a journal's owners and limit as they were
owners_left : (s : Station) (i k : ℕ) (o : Outcome) → s.owners ≡ (station_after s i k o).owners
owners_left s i k (Ok step) = refl
owners_left s i k (Err e) = refl

limit_left : (s : Station) (i k : ℕ) (o : Outcome) → s.limit ≡ (station_after s i k o).limit
limit_left s i k (Ok step) = refl
limit_left s i k (Err e) = refl

-- the station that a call leaves, part by part
pub station_left : (s : Station) (i k : ℕ) (o : Outcome) (table : List Cabinet) (owners limit : ℕ) (lists : ℕ → List Entry) (trays : List ℕ)
    → table ≡ (station_after s i k o).table → owners ≡ s.owners → limit ≡ s.limit → ((p : ℕ) → lists p ≡ (station_after s i k o).lists p) → trays ≡ (station_after s i k o).trays
    → station table owners limit lists trays ≡ station_after s i k o
station_left s i k o table owners limit lists trays same_table same_owners same_limit same_lists same_trays =
    ap (λ t. station t owners limit lists trays) same_table
    ∙ ap (λ n. station left.table n limit lists trays) (same_owners ∙ owners_left s i k o)
    ∙ ap (λ n. station left.table left.owners n lists trays) (same_limit ∙ limit_left s i k o)
    ∙ ap (λ ls. station left.table left.owners left.limit ls trays) (fun_ext same_lists)
    ∙ ap (station left.table left.owners left.limit left.lists) same_trays
  where
    left : Station
    left = station_after s i k o

module _ (s : Station) (i k : ℕ) (d : Cabinet) where
  -- a step that is refused leaves all as it was
  pub record StepRefused (o called : Outcome) (e : Refusal) : Type 0 where
    pub answer : Err e ≡ answer_by i called
    pub table : set s.table i d ≡ (station_after s i k called).table
    pub lists : (p : ℕ) → lists_by s.lists i o p ≡ (station_after s i k called).lists p
    pub trays : s.trays ≡ (station_after s i k called).trays

  pub step_refused : (o called : Outcome) (e : Refusal) → called ≡ o → Err e ≡ said_by o → d ≡ left_by (cabinet_at s i) o → StepRefused o called e
  step_refused o called e whole told left =
      let refused : o ≡ Err e = refused_step o e told in
      let same = sym (whole ∙ refused) in
      record {
        answer = ap (answer_by i) same;
        table = same_table s.table i d (left ∙ ap (left_by (cabinet_at s i)) refused) ∙ ap (λ (x : Outcome). (station_after s i k x).table) same;
        lists = λ p. ap (λ (x : Outcome). lists_by s.lists i x p) refused ∙ ap (λ (x : Outcome). (station_after s i k x).lists p) same;
        trays = ap (λ (x : Outcome). (station_after s i k x).trays) same;
      }

module _ (s : Station) (i k : ℕ) (reply : Reply) (d : Cabinet) (owners' : ℕ) (ls' : ℕ → List Entry)
    (owner : i < owners') (least : 1 ≤ s.limit) (short : length (ls' i) ≤ s.limit) (room : tray_start s k + tray_length s.limit ≤ length s.trays) where
  -- what is said is written, and the record is the step's
  written : (o : Outcome) → Ok reply ≡ said_by o → d ≡ left_by (cabinet_at s i) o → ls' i ≡ lists_by s.lists i o i → Names o
      → (and_then (said_answer owners' i d.promised (ls' i) reply (tray_length s.limit) k s.trays) (λ n. Ok (0, n)) ≡ answer_by i o)
      × (set s.table i d ≡ (station_after s i k o).table)
      × (said_trays owners' i d.promised (ls' i) reply (tray_length s.limit) k s.trays ≡ (station_after s i k o).trays)
  written (Ok step) told left lists names =
      let tray : List ℕ = tray_at s k in
      let t : Option Letter = letter_said i d.promised (ls' i) reply in
      let long : length tray ≡ tray_length s.limit = part_long s.trays (tray_start s k) (tray_length s.limit) room in
      let said = spoken owners' s.limit i s.lists ls' (cabinet_at s i) d reply tray owner least short (omega arith) (Ok step) told left lists names in (
        ap (λ (r : Result ℕ Refusal). and_then r (λ n. Ok (0, n))) said.0 ∙ sym said.1,
        ap (set s.table i) left,
        ap (λ (r : Result ℕ Refusal). over s.trays (tray_start s k) (filled_by tray (spoken_into tray t) r)) said.0 ∙ ap (over s.trays (tray_start s k)) (sym said.2) ∙ trays_said s k (letter_after i step) room,
      )
  written (Err e) told left lists names = absurd (let z : ◌≡◌ {A = ℕ} 0 1 = cc in omega arith)

  -- once what is said is written, all is as the call leaves it
  pub record Finished (limit' : ℕ) (o called : Outcome) : Type 0 where
    pub answer : and_then (said_answer owners' i d.promised (ls' i) reply (tray_length limit') k s.trays) (λ n. Ok (0, n)) ≡ answer_by i called
    pub table : set s.table i d ≡ (station_after s i k called).table
    pub lists : (p : ℕ) → lists_by s.lists i o p ≡ (station_after s i k called).lists p
    pub trays : said_trays owners' i d.promised (ls' i) reply (tray_length limit') k s.trays ≡ (station_after s i k called).trays

  -- so it is where the call's outcome is the step's, and the journal's limit is the station's
  pub finished : (limit' : ℕ) (o called : Outcome) → limit' ≡ s.limit → called ≡ o → Ok reply ≡ said_by o → d ≡ left_by (cabinet_at s i) o → ls' i ≡ lists_by s.lists i o i → Names o → Finished limit' o called
  finished limit' o called same whole told left lists names =
      let done = written o told left lists names in
      record {
        answer = ap (λ n. and_then (said_answer owners' i d.promised (ls' i) reply (tray_length n) k s.trays) (λ m. Ok (0, m))) same ∙ done.0 ∙ sym (ap (answer_by i) whole);
        table = done.1 ∙ sym (ap (λ (x : Outcome). (station_after s i k x).table) whole);
        lists = λ p. lists_left s i k o p ∙ sym (ap (λ (x : Outcome). (station_after s i k x).lists p) whole);
        trays = ap (λ n. said_trays owners' i d.promised (ls' i) reply (tray_length n) k s.trays) same ∙ done.2 ∙ sym (ap (λ (x : Outcome). (station_after s i k x).trays) whole);
      }
