-- One more entry of a pass. Assumes nothing.
use Rattle.std.proofs.Common.{◌≡◌, ℕ, zero, suc, ◌+◌, ◌<◌, ◌≤◌, Bool, true, false, cond, not, ◌&&◌, ◌||◌, List, length, get_or, Ok, sym, refl, ap, ◌∙◌, ap₂, add-one, arith}
use Rattle.journal.specs.declared.Entry.{Entry}
use Rattle.journal.specs.Entries.{blank, members_of}
use Rattle.entries.specs.Histories.{is_configuration}
use Rattle.std.proofs.lemmas.Bool.Decides.{nat_tests}
use Rattle.configurations.specs.Configurations.{last_before, members_before, version_before, each_from, front_answer}

module _ (l : List Entry) where
  -- among no entries, the last configuration is put at 0
  pub last_none : last_before l 0 ≡ 0
  unfolding last_before
  last_none = refl

  -- an entry moves the last configuration where it is one
  pub last_more : (n last : ℕ) (e : Entry) → get_or l n blank ≡ e → last ≡ last_before l n → cond (is_configuration e.kind) n last ≡ last_before l (n + 1)
  unfolding last_before
  last_more n last e is so_far =
      ap₂ (λ (e : Entry) k. cond (is_configuration e.kind) n k) (sym is) so_far ∙ sym (ap (last_before l) (add-one n))

  -- among no entries, nobody is a member
  pub members_none : members_before l 0 ≡ 0
  unfolding members_before
  members_none = refl

  -- an entry names the members where it is a configuration
  pub members_more : (n members : ℕ) (e : Entry) → get_or l n blank ≡ e → members ≡ members_before l n → cond (is_configuration e.kind) (members_of e.body) members ≡ members_before l (n + 1)
  unfolding members_before
  members_more n members e is so_far =
      ap₂ (λ (e : Entry) k. cond (is_configuration e.kind) (members_of e.body) k) (sym is) so_far ∙ sym (ap (members_before l) (add-one n))

  -- among no entries, no configuration is counted
  pub version_none : version_before l 0 ≡ 0
  unfolding version_before
  version_none = refl

  -- an entry is counted where it is a configuration
  pub version_more : (n version : ℕ) (e : Entry) → get_or l n blank ≡ e → version ≡ version_before l n → version + cond (is_configuration e.kind) 1 0 ≡ version_before l (n + 1)
  unfolding version_before
  version_more n version e is so_far =
      ap₂ (λ (e : Entry) k. k + cond (is_configuration e.kind) 1 0) (sym is) so_far ∙ sym (ap (version_before l) (add-one n))

  module _ (test : ℕ → Bool) (from : ℕ) where
    -- of no entries, the test holds
    pub each_none : each_from test l from 0 ≡ true
    unfolding each_from
    each_none = refl

    -- one entry more is tested where it is a configuration
    pub each_more : (n : ℕ) (e : Entry) → get_or l (from + n) blank ≡ e → each_from test l from n ≡ true
        → each_from test l from (n + 1) ≡ (not (is_configuration e.kind) || test (members_of e.body))
    unfolding each_from
    each_more n e is before =
        ap (each_from test l from) (add-one n) ∙ ap₂ (λ (e : Entry) b. b && (not (is_configuration e.kind) || test (members_of e.body))) is before

    -- and where it has failed once, it fails of all
    pub each_fails : (n k : ℕ) → each_from test l from n ≡ false → each_from test l from (n + k) ≡ false
    unfolding each_from
    each_fails n zero failed = ap (each_from test l from) (let z : n + 0 ≡ n = omega arith in z) ∙ failed
    each_fails n (suc k) failed =
        ap (each_from test l from) (let z : n + suc k ≡ suc (n + k) = omega arith in z)
        ∙ ap (λ b. b && (not (is_configuration (get_or l (from + (n + k)) blank).kind) || test (members_of (get_or l (from + (n + k)) blank).body))) (each_fails n k failed)

-- an accepted answer about the first n entries tells that they are there
pub front_tells : {A : Type 0} (owners o n : ℕ) (ls : ℕ → List Entry) (x y : A) → Ok x ≡ front_answer owners ls o n y → (o < owners) × (n ≤ length (ls o)) × (x ≡ y)
front_tells owners o n ls x y told = grind (arith, nat_tests)

-- and where they are, the answer is given
pub front_ok : {A : Type 0} (owners o n : ℕ) (ls : ℕ → List Entry) (x y : A) → o < owners → n ≤ length (ls o) → x ≡ y → Ok x ≡ front_answer owners ls o n y
front_ok owners o n ls x y h k same = grind (arith, nat_tests)
