-- The scene as contracts see it: objects and processes by name, no places and no tables. And what a rights rule is.
use Rattle.std.specs.Prelude.{◌≡◌, ℕ, ◌≤◌, Bool, true, false, ◌&&◌, ◌||◌, ◌⊎◌, List, Option, ◌==◌}
use Rattle.model.specs.declared.kinds.Name.{Name}
use Rattle.model.specs.declared.kinds.Slot.{Slot}
use Rattle.model.specs.declared.kinds.Space.{Space}

-- an object, without its elements
pub record Body : Type 0 where
  pub kind : ℕ
  pub list : List Slot

-- a process: its name spaces, the current one first
pub record Task : Type 0 where
  pub running : Bool
  pub spaces : List Space

-- the scene without the elements; of each share, how many objects live and how many numbers were given
pub record Frame : Type 0 where
  pub object : Name → Option Body
  pub living : ℕ → ℕ
  pub given : ℕ → ℕ
  pub process : ℕ → Option Task

pub record World (E : Type 0) : Type 0 where
  pub frame : Frame
  pub elements : Name → List E

-- the rights of the kernel, by their numbers
abbrev pub dltrts : ℕ
dltrts = 0

abbrev pub envrts : ℕ
envrts = 1

abbrev pub loadrts : ℕ
loadrts = 2

abbrev pub storts : ℕ
storts = 3

abbrev pub apprts : ℕ
apprts = 4

abbrev pub killrts : ℕ
killrts = 5

abbrev pub getrts : ℕ
getrts = 6

abbrev pub putrts : ℕ
putrts = 7

abbrev pub addrrts : ℕ
addrrts = 8

abbrev pub mdfyrts : ℕ
mdfyrts = 9

abbrev pub ucnfrts : ℕ
ucnfrts = 10

abbrev pub callrts : ℕ
callrts = 11

abbrev pub eraserts : ℕ
eraserts = 12

-- a rights rule, by what it means
pub record Rule : Type 0 where
  pub valid : ℕ → Bool
  pub grants : ℕ → ℕ → Bool
  pub restrict : ℕ → ℕ → ℕ
  pub strip : ℕ → ℕ
  pub add_delete : ℕ → ℕ
  pub admit : ℕ → ℕ → ℕ
  pub full : ℕ

-- the laws of a rule, at each right k from 0 to 20
pub record Laws (rule : Rule) : Type 0 where
  pub restrict_both : (r m k : ℕ) → k ≤ 20 → rule.grants (rule.restrict r m) k ≡ (rule.grants r k && rule.grants m k)
  pub strip_less : (r k : ℕ) → k ≤ 20 → rule.grants (rule.strip r) k ≡ true → rule.grants r k ≡ true
  pub strip_modify : (r : ℕ) → rule.grants (rule.strip r) 9 ≡ false
  pub strip_unconfined : (r : ℕ) → rule.grants (rule.strip r) 10 ≡ false
  pub add_delete_exact : (r k : ℕ) → k ≤ 20 → rule.grants (rule.add_delete r) k ≡ (rule.grants r k || k == 0)
  pub admit_new : (a n k : ℕ) → k ≤ 20 → rule.grants (rule.admit a n) k ≡ true → rule.grants n k ≡ true
  pub admit_given : (a n k : ℕ) → (k ≡ 1) ⊎ ((k ≡ 9) ⊎ (k ≡ 10)) → rule.grants (rule.admit a n) k ≡ true → rule.grants a k ≡ true
  pub full_grants : (k : ℕ) → k ≤ 12 → rule.grants rule.full k ≡ true
  pub zero_valid : rule.valid 0 ≡ true
  pub restrict_valid : (r m : ℕ) → rule.valid (rule.restrict r m) ≡ true
  pub strip_valid : (r : ℕ) → rule.valid (rule.strip r) ≡ true
  pub add_delete_valid : (r : ℕ) → rule.valid (rule.add_delete r) ≡ true
  pub admit_valid : (a n : ℕ) → rule.valid (rule.admit a n) ≡ true
  pub full_valid : rule.valid rule.full ≡ true

-- the code c does all that 0 does, wherever it stands
pub record AsZero (rule : Rule) (c : ℕ) : Type 0 where
  pub grants : (k : ℕ) → rule.grants c k ≡ rule.grants 0 k
  pub restrict : (m : ℕ) → rule.restrict c m ≡ rule.restrict 0 m
  pub restrict_by : (r : ℕ) → rule.restrict r c ≡ rule.restrict r 0
  pub strip : rule.strip c ≡ rule.strip 0
  pub add_delete : rule.add_delete c ≡ rule.add_delete 0
  pub admit : (n : ℕ) → rule.admit c n ≡ rule.admit 0 n
  pub admit_as : (a : ℕ) → rule.admit a c ≡ rule.admit a 0

-- an invalid code is treated as code 0
abbrev pub InvalidAsZero : Rule → Type 0
InvalidAsZero rule = (c : ℕ) → rule.valid c ≡ false → AsZero rule c
