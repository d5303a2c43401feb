-- Worked cases: what the definitions give at values that were computed by hand. Assumes nothing.
use Rattle.std.specs.Prelude.{◌≡◌, ℕ, Bool, true, false, ◌&&◌, List, [], ◌∷◌, length, replicate, negsuc, Ok, Err, Result}
use Rattle.refusal.specs.declared.Refusal.{Refusal}
use Rattle.refusal.specs.Numbers.{number_of}
use Rattle.orders.specs.declared.SetPoint.{SetPoint}
use Rattle.orders.specs.SetPoints.{encode}
use Rattle.quorum.specs.declared.Group.TheVariants.{Zero}
use Rattle.quorum.specs.declared.Share.{Share}
use Rattle.quorum.specs.declared.Groups.{Groups}
use Rattle.quorum.specs.GroupRule.{by_groups}
use Rattle.quorum.specs.MajorityRule.{majority}
use Rattle.journal.specs.declared.Entry.{Entry}
use Rattle.journal.specs.declared.EntryKind.TheVariants.{Configuration, Order}
use Rattle.cabinet.specs.declared.Cabinet.{Cabinet}
use Rattle.cabinet.specs.declared.Reply.TheVariants.{Promise}
use Rattle.cabinet.specs.Epochs.{epoch_answer}
use Rattle.cabinet.specs.Records.{promises}
use Rattle.cabinet.specs.Steps.{leaves}
use Rattle.configurations.specs.Configurations.{each_in_play, commits}
use Rattle.messages.specs.Messages.{candidate_step}

-- a refusal of this number
abbrev pub Refused : {A : Type 0} → Result A Refusal → ℕ → Type 0
Refused r n = (e : Refusal) × (r ≡ Err e) × (number_of e ≡ n)

-- a share of this weight, in group 0
abbrev pub of_weight : ℕ → Share
of_weight weight = record { weight = weight; group = Zero }

-- all cabinets in one group, the first three with the weights 3, 1 and 1, the others with none
abbrev pub one_group : Groups
one_group = record { shares = of_weight 3 ∷ of_weight 1 ∷ of_weight 1 ∷ replicate 13 (of_weight 0) }

-- a configuration of these members
abbrev pub members : ℕ → Entry
members mask = record { epoch = 0; kind = Configuration; body = mask }

-- an order
abbrev pub an_order : Entry
an_order = record { epoch = 0; kind = Order; body = 2220498092027 }

-- seven entries: configurations at 0, 3 and 6, orders between
abbrev pub seven : List Entry
seven = members 7 ∷ an_order ∷ an_order ∷ members 11 ∷ an_order ∷ an_order ∷ members 26 ∷ []

-- a change of the members from 7 to 26
abbrev pub changing : List Entry
changing = members 7 ∷ members 26 ∷ []

-- the set point of effect 2, quantity 4 and value -5
abbrev pub worked_order : SetPoint
worked_order = record { effect = 2; quantity = 4; value = negsuc 4 }

-- every worked case
pub record Worked : Type 0 where
  -- from promised 0 cabinet 3 stands with 3
  pub first_of_3 : epoch_answer 0 3 ≡ Ok 3
  -- from promised 0 cabinet 0 stands with 16
  pub first_of_0 : epoch_answer 0 0 ≡ Ok 16
  -- from promised 4294967294 cabinet 15 stands with the last epoch
  pub last_of_15 : epoch_answer 4294967294 15 ≡ Ok 4294967295
  -- from promised 4294967294 cabinet 14 has no epoch left: 37
  pub spent_of_14 : Refused (epoch_answer 4294967294 14) 37
  -- three of four are a majority
  pub three_of_four : majority 15 7 ≡ true
  -- two of four are none
  pub two_of_four : majority 15 3 ≡ false
  -- the cabinet of weight 3 is a quorum of weight 5
  pub the_heavy : by_groups one_group 7 1 ≡ true
  -- the two of weight 1 are none
  pub the_light : by_groups one_group 7 6 ≡ false
  -- with mark 3 all three configurations are in play: what is asked of each in play is asked of these
  pub in_play_at_3 : (test : ℕ → Bool) → each_in_play test seven 3 ≡ (test 7 && test 11 && test 26)
  -- with mark 4 the last two
  pub in_play_at_4 : (test : ℕ → Bool) → each_in_play test seven 4 ≡ (test 11 && test 26)
  -- with mark 7 the last alone
  pub in_play_at_7 : (test : ℕ → Bool) → each_in_play test seven 7 ≡ test 26
  -- held by cabinets 1 and 3, a quorum of the new members alone, the change waits
  pub new_alone : commits majority changing 10 1 ≡ false
  -- held by cabinets 0 and 1, a quorum of the old members alone, it waits
  pub old_alone : commits majority changing 3 1 ≡ false
  -- held by cabinets 0, 1 and 3, a quorum of both, it commits
  pub old_and_new : commits majority changing 11 1 ≡ true
  -- a voter with accepted epoch 5 and 3 entries answers a candidate with 5 and 3 by a promise
  pub as_late : (l : List Entry) (c : Cabinet) (epoch : ℕ) → c.accepted ≡ 5 → length l ≡ 3
      → candidate_step l c epoch 5 3 ≡ Ok (leaves (promises epoch c) l Promise)
  -- it refuses one with 5 and 2: 44
  pub shorter : (l : List Entry) (c : Cabinet) (epoch : ℕ) → c.accepted ≡ 5 → length l ≡ 3 → Refused (candidate_step l c epoch 5 2) 44
  -- it refuses one with 3 and 9: 44
  pub earlier : (l : List Entry) (c : Cabinet) (epoch : ℕ) → c.accepted ≡ 5 → length l ≡ 3 → Refused (candidate_step l c epoch 3 9) 44
  -- the code of effect 2, quantity 4 and value -5
  pub code : encode worked_order ≡ 2220498092027
