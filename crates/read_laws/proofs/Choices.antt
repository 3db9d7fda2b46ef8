-- The first of some choices whose test passes.
use Rattle.std.proofs.Common.{◌≡◌, Bool, true, false, cond, Option, Some, None, subst}
use Rattle.std.proofs.lemmas.Option.{none-some, same_Some}

pub either : {A : Type 0} (P : A → Type 0) (b : Bool) (x y : A) (rest : Option A) → P x → (rest ≡ Some y → P y) → cond b (Some x) rest ≡ Some y → P y
either P true x y rest first later is = subst P (same_Some x y is) first
either P false x y rest first later is = later is

pub nothing : {A : Type 0} (P : A → Type 0) (y : A) → None ≡ Some y → P y
nothing P y is = absurd (none-some y is)
