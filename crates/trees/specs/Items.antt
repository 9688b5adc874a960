-- Laws of a list of items: the first that applies, and what it means that none does. Assumes nothing.
use Rattle.std.specs.Prelude.{◌≡◌, refl, ◌≢◌, Bool, true, false, not, List, [], ◌∷◌, ◌++◌, ℕ, ◌≤◌}
use Rattle.std.proofs.Common.{arith}
use Rattle.model.specs.Refusals.{Item, item, first_of}

-- ---- as the code finds it: r is the code's test of what must hold, t the definition's

pub first_no : (t r : Bool) (k : ℕ) (rest : List Item) → r ≡ t → not r ≡ true → k ≡ first_of (item k (not t) ∷ rest)
unfolding first_of
first_no t r k rest e h = rw (← e, h)

pub first_yes : (t r : Bool) (k x : ℕ) (rest : List Item) → r ≡ t → not r ≡ false → x ≡ first_of rest → x ≡ first_of (item k (not t) ∷ rest)
unfolding first_of
first_yes t r k x rest e h g = rw (← e, h) g

pub first_none : 0 ≡ first_of []
unfolding first_of
first_none = refl

-- ---- as a reader means it

-- k is the number of the first item that applies
pub data First (k : ℕ) : List Item → Type 0 where
  found : {l : List Item} → First k (item k true ∷ l)
  later : {j : ℕ} {l : List Item} → First k l → First k (item j false ∷ l)

-- no item applies
pub data NoneApplies : List Item → Type 0 where
  end : NoneApplies []
  passed : {j : ℕ} {l : List Item} → NoneApplies l → NoneApplies (item j false ∷ l)

-- every number is 1 or more
pub data Numbered : List Item → Type 0 where
  end : Numbered []
  more : {k : ℕ} {t : Bool} {l : List Item} → 1 ≤ k → Numbered l → Numbered (item k t ∷ l)

pub numbered_append : {l m : List Item} → Numbered l → Numbered m → Numbered (l ++ m)
numbered_append end n = n
numbered_append (more h r) n = more h (numbered_append r n)

pub first_says : (l : List Item) → first_of l ≢ 0 → First (first_of l) l
unfolding first_of
first_says [] h = absurd (h refl)
first_says (item k true ∷ l) h = found
first_says (item k false ∷ l) h = later (first_says l h)

pub none_says : {l : List Item} → Numbered l → first_of l ≡ 0 → NoneApplies l
unfolding first_of
none_says end h = end
none_says (more {t = true} l r) h = absurd (omega arith)
none_says (more {t = false} l r) h = passed (none_says r h)

-- ---- taken apart

-- one item does not apply, and no later one
pub first_zero : (t : Bool) (k : ℕ) (rest : List Item) → 1 ≤ k → first_of (item k (not t) ∷ rest) ≡ 0 → (t ≡ true) × (first_of rest ≡ 0)
unfolding first_of
first_zero true k rest l h = (refl, h)
first_zero false k rest l h = absurd (omega arith)

-- one list of items after another
pub first_then : {l : List Item} (m : List Item) → Numbered l → first_of l ≡ 0 → first_of (l ++ m) ≡ first_of m
unfolding first_of
first_then m end h = refl
first_then m (more {t = true} l r) h = absurd (omega arith)
first_then m (more {t = false} l r) h = first_then m r h

pub first_here : (l m : List Item) → first_of l ≢ 0 → first_of (l ++ m) ≡ first_of l
unfolding first_of
first_here [] m h = absurd (h refl)
first_here (item k true ∷ l) m h = refl
first_here (item k false ∷ l) m h = first_here l m h
