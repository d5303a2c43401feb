-- What a message's borrowed bytes are to its frame. Assumes nothing.
use Rattle.std.proofs.Common.{◌≡◌, ℕ, ◌*◌, ◌≤◌, Bool, true, false, List, length, get_or, take, sym, refl, ap, ◌∙◌, inl, inr, arith}
use Rattle.std.proofs.lemmas.List.{get_or_past, length-take-le}
use Rattle.std.proofs.lemmas.Bool.{cases_lt, and_parts}
use Rattle.journal.specs.declared.Entry.{Entry as ListEntry}
use Rattle.journal.specs.Entries.{blank}
use Rattle.frames.specs.declared.Message.{Message}
use Rattle.frames.specs.declared.Message.TheVariants.{Candidate, Promise, History, Entry, Acknowledge, Commit}
use Rattle.entries.specs.Bytes.{Octets}
use Rattle.entries.specs.Entries.{entries_of, entry_in, entry_bytes, entries_bytes}
use Rattle.entries.specs.Histories.{body_fits}
use Rattle.entries.proofs.Places.{entries_length, entries_at}
use Rattle.entries.proofs.Trips.{entry_again}
use Rattle.entries.proofs.ListTrips.{entries_again, fits_spelled, goes_on_each, part_small}
use Rattle.frames.specs.Letters.{carried, entries_in, entries_fit}
use Rattle.frames.specs.Reading.{said}
use Rattle.writing.specs.Writing.{borrowed}

-- they are judged as the message's entries are
pub borrowed_fit : (codes : ℕ → Bool) (cabinets epoch : ℕ) (m : Message) → entries_fit codes cabinets (carried (said m)).kind epoch (entries_of (borrowed m)) ≡ entries_fit codes cabinets (carried (said m)).kind epoch (entries_in (said m))
borrowed_fit codes cabinets epoch (Candidate accepted length) = refl
borrowed_fit codes cabinets epoch Promise = refl
borrowed_fit codes cabinets epoch (History mark entries) = refl
borrowed_fit codes cabinets epoch (Entry position mark e) = refl
borrowed_fit codes cabinets epoch (Acknowledge length) = refl
borrowed_fit codes cabinets epoch (Commit mark) = refl

-- a first entry that fits is there
first_there : (codes : ℕ → Bool) (cabinets : ℕ) (bs : List ℕ) → body_fits codes cabinets (get_or (entries_of bs) 0 blank).kind (get_or (entries_of bs) 0 blank).body ≡ true → 16 ≤ length bs
first_there codes cabinets bs fits =
    elim (cases_lt (length bs) 16) [
      | inl short ↦
          let none : get_or (entries_of bs) 0 blank ≡ blank = get_or_past (entries_of bs) 0 blank (omega (arith, entries_length bs)) in
          let fault : false ≡ true = sym (ap (λ (e : ListEntry). body_fits codes cabinets e.kind e.body) none) ∙ fits in
          absurd (let z : ◌≡◌ {A = ℕ} 0 1 = cc in omega arith)
      | inr long ↦ long
    ]

-- they are long enough for the message's entries
pub borrowed_room : (codes : ℕ → Bool) (cabinets epoch : ℕ) (m : Message) → entries_fit codes cabinets (carried (said m)).kind epoch (entries_in (said m)) ≡ true → 16 * length (entries_in (said m)) ≤ length (borrowed m)
borrowed_room codes cabinets epoch (Candidate accepted size) fits = omega arith
borrowed_room codes cabinets epoch Promise fits = omega arith
borrowed_room codes cabinets epoch (History mark entries) fits = omega (arith, entries_length entries.now)
borrowed_room codes cabinets epoch (Entry position mark e) fits = first_there codes cabinets e.now (and_parts _ _ fits).1
borrowed_room codes cabinets epoch (Acknowledge size) fits = omega arith
borrowed_room codes cabinets epoch (Commit mark) fits = omega arith

-- they are the bytes of the message's entries
pub borrowed_bytes : (codes : ℕ → Bool) (cabinets epoch : ℕ) (m : Message) → Octets (borrowed m) → entries_fit codes cabinets (carried (said m)).kind epoch (entries_in (said m)) ≡ true → entries_bytes (entries_in (said m)) ≡ take (16 * length (entries_in (said m))) (borrowed m)
borrowed_bytes codes cabinets epoch (Candidate accepted size) small fits = refl
borrowed_bytes codes cabinets epoch Promise small fits = refl
borrowed_bytes codes cabinets epoch (History mark entries) small fits =
    let bs : List ℕ = entries.now in
    let on = (and_parts _ _ fits).1 in
    entries_again codes cabinets bs small (λ k h. (goes_on_each codes cabinets epoch 0 (entries_of bs) on k h).1)
    ∙ ap (λ n. take (16 * n) bs) (sym (entries_length bs))
borrowed_bytes codes cabinets epoch (Entry position mark e) small fits =
    let bs : List ℕ = e.now in
    let body = (and_parts _ _ fits).1 in
    let long = first_there codes cabinets bs body in
    let is : get_or (entries_of bs) 0 blank ≡ entry_in (take 16 bs) = entries_at bs 0 (omega arith) in
    let spells = fits_spelled codes cabinets (take 16 bs) (sym (ap (λ (x : ListEntry). body_fits codes cabinets x.kind x.body) is) ∙ body) in
    ap entry_bytes is ∙ entry_again (take 16 bs) (length-take-le 16 bs long) (part_small bs 0 16 small) spells
borrowed_bytes codes cabinets epoch (Acknowledge size) small fits = refl
borrowed_bytes codes cabinets epoch (Commit mark) small fits = refl
