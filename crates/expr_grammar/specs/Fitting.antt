-- What fits where. `limit` is the greatest nesting, and depth the nesting at a place.
use Rattle.std.specs.Prelude.{ℕ, zero, suc, ◌≡◌, ◌<◌, ◌^◌, List, [], ◌∷◌, Bool, true, false, not, ◌==◌, Option, Some, None}
use Rattle.ent_types.specs.declared.entity.TypeId.{TypeId}
use Rattle.expr_tokens.specs.declared.sign.Sign.{Sign}
use Rattle.expr_tokens.specs.declared.sign.Sign.TheVariants as signs
use Rattle.expr_trees.specs.declared.tree.UnaryOp.{UnaryOp}
use Rattle.expr_trees.specs.declared.tree.UnaryOp.TheVariants as unary
use Rattle.expr_trees.specs.declared.tree.BinaryOp.{BinaryOp}
use Rattle.expr_trees.specs.declared.tree.BinaryOp.TheVariants as binary
use Rattle.expr_grammar.specs.declared.words.Call.TheVariants as calls
use Rattle.expr_grammar.specs.declared.words.FieldUse.{FieldUse}
use Rattle.expr_grammar.specs.declared.words.FieldUse.TheVariants.{Number as NumberField, Entity as EntityField, Looked, Assigned}
use Rattle.expr_grammar.specs.declared.words.TypeUse.{TypeUse}
use Rattle.expr_grammar.specs.declared.words.TypeUse.TheVariants.{Asked, Own, Switched, Removed, Enabled, Added, Set, Shared}
use Rattle.expr_grammar.specs.declared.words.Change.{Change}
use Rattle.expr_grammar.specs.declared.words.Change.TheVariants as changes
use Rattle.expr_grammar.specs.declared.words.Turn.{Turn}
use Rattle.expr_grammar.specs.declared.words.Turn.TheVariants as turns
use Rattle.expr_grammar.specs.Grammar.{plain, own, Ref, entity, called, Sort, expr, tail, Syntax, number, group, signed, named, alone, field, two, pick, get, alive, has, same, on, lone, chain, stop, more, Value, int, ref, Part, AssignText, SwitchText, Command, create, destroy, change, turn, instantiate}
use Rattle.expr_grammar.specs.Scopes.{Scope}

-- the signs before an operand
abbrev pub sign_of : Sign → Option UnaryOp
sign_of signs.Minus = Some unary.Minus
sign_of signs.Not = Some unary.Not
sign_of _ = None

-- the operators, with their levels: 0 for * / %, 1 for + -, 2 for comparisons, 3 for &&, 4 for ||
abbrev pub operator_of : Sign → Option (BinaryOp × ℕ)
operator_of signs.Times = Some (binary.Times, 0)
operator_of signs.Divide = Some (binary.Divide, 0)
operator_of signs.Rest = Some (binary.Rest, 0)
operator_of signs.Plus = Some (binary.Plus, 1)
operator_of signs.Minus = Some (binary.Minus, 1)
operator_of signs.Equal = Some (binary.Equal, 2)
operator_of signs.NotEqual = Some (binary.NotEqual, 2)
operator_of signs.Less = Some (binary.Less, 2)
operator_of signs.LessEqual = Some (binary.LessEqual, 2)
operator_of signs.Greater = Some (binary.Greater, 2)
operator_of signs.GreaterEqual = Some (binary.GreaterEqual, 2)
operator_of signs.And = Some (binary.And, 3)
operator_of signs.Or = Some (binary.Or, 4)
operator_of _ = None

-- operators of one level group from the left, but a comparison isn't followed by another
abbrev pub associates : ℕ → Bool
associates level = not (level == 2)

abbrev pub MayGoOn : Bool → Syntax tail → Type 0
MayGoOn true t = Unit {0}
MayGoOn false stop = Unit {0}
MayGoOn false (more s op e t) = ⊥

-- a number of an expression, and a number of a reference
abbrev pub IsInt : ℕ → Type 0
IsInt n = n < 2 ^ 63

abbrev pub IsRefNumber : ℕ → Type 0
IsRefNumber n = n < 2 ^ 32

-- a reference; `made` says whether a made name fits
abbrev pub FitsRef : Scope → Bool → Ref → Type 0
FitsRef s made (entity index version) = IsRefNumber index × IsRefNumber version
FitsRef s made (called name (plain r)) = s.reference made name ≡ Some r
FitsRef s made (called name (own f ty i)) = (s.find name ≡ Some ty) × (s.field EntityField ty f ≡ Some i)

-- a type by its name
abbrev pub FitsType : Scope → TypeUse → List ℕ → TypeId → Type 0
FitsType s role name ty = (s.find name ≡ Some ty) × (s.allows role ty ≡ true)

-- a type and its field by their names
abbrev pub FitsField : Scope → FieldUse → List ℕ → TypeId → List ℕ → ℕ → Type 0
FitsField s role name ty f i = (s.find name ≡ Some ty) × (s.field role ty f ≡ Some i)

-- what a tree must meet at a level and a depth, where it follows the name
abbrev pub Fits : Scope → ℕ → {sort : Sort} → ℕ → ℕ → List ℕ → Syntax sort → Type 0
Fits s limit level depth name (number n) = IsInt n
Fits s limit level depth name (group e) = (depth < limit) × Fits s limit 5 (suc depth) [] e
Fits s limit level depth name (signed sign op o) = (depth < limit) × (sign_of sign ≡ Some op) × Fits s limit 0 (suc depth) [] o
Fits s limit level depth name (named n after) = Fits s limit 0 depth n after
Fits s limit level depth name (alone v) = s.variable name ≡ Some v
Fits s limit level depth name (field f ty i) = FitsField s NumberField name ty f i
Fits s limit level depth name (two op a b) =
    (depth < limit) × (s.call name ≡ Some (calls.Two op)) × Fits s limit 5 (suc depth) [] a × Fits s limit 5 (suc depth) [] b
Fits s limit level depth name (pick c a b) =
    (depth < limit) × (s.call name ≡ Some calls.Pick) × Fits s limit 5 (suc depth) [] c × Fits s limit 5 (suc depth) [] a × Fits s limit 5 (suc depth) [] b
Fits s limit level depth name (get r t ty f i) =
    (depth < limit) × (s.call name ≡ Some calls.Get) × FitsRef s false r × FitsField s Looked t ty f i
Fits s limit level depth name (alive r) = (depth < limit) × (s.call name ≡ Some calls.Alive) × FitsRef s false r
Fits s limit level depth name (has r t ty) =
    (depth < limit) × (s.call name ≡ Some calls.Has) × FitsRef s false r × FitsType s Asked t ty
Fits s limit level depth name (same r q) =
    (depth < limit) × (s.call name ≡ Some calls.Same) × FitsRef s false r × FitsRef s false q
Fits s limit level depth name (on t ty) = (depth < limit) × (s.call name ≡ Some calls.On) × FitsType s Own t ty
Fits s limit zero depth name (lone o) = Fits s limit 0 depth [] o
Fits s limit (suc level) depth name (lone o) = ⊥
Fits s limit zero depth name (chain e t) = ⊥
Fits s limit (suc level) depth name (chain e t) = Fits s limit level depth [] e × Fits s limit level depth [] t
Fits s limit level depth name stop = Unit {0}
Fits s limit level depth name (more sign op e t) =
    (operator_of sign ≡ Some (op, level)) × Fits s limit level depth [] e × MayGoOn (associates level) t × Fits s limit level depth [] t

-- an expression at a depth
abbrev pub FitsExpr : Scope → ℕ → ℕ → Syntax expr → Type 0
FitsExpr s limit depth e = Fits s limit 5 depth [] e

-- a value for a field, which is a ref field or not
abbrev pub FitsValue : Scope → ℕ → Bool → Bool → Value → Type 0
FitsValue s limit made true (int e) = ⊥
FitsValue s limit made false (int e) = FitsExpr s limit 0 e
FitsValue s limit made true (ref r) = FitsRef s made r
FitsValue s limit made false (ref r) = ⊥

abbrev pub FitsValues : Scope → ℕ → List Bool → List Value → Type 0
FitsValues s limit [] [] = Unit {0}
FitsValues s limit [] (v ∷ vs) = ⊥
FitsValues s limit (k ∷ ks) [] = ⊥
FitsValues s limit (k ∷ ks) (v ∷ vs) = FitsValue s limit true k v × FitsValues s limit ks vs

abbrev pub FitsPart : Scope → ℕ → TypeUse → Part → Type 0
FitsPart s limit role p = FitsType s role p.name p.ty × FitsValues s limit (s.refs p.ty) p.values

-- no type twice, nor one that was used before
abbrev pub FitsParts : Scope → ℕ → List TypeId → List Part → Type 0
FitsParts s limit used [] = Unit {0}
FitsParts s limit used (p ∷ ps) = FitsPart s limit Added p × (s.holds used p.ty ≡ false) × FitsParts s limit (p.ty ∷ used) ps

abbrev pub FitsAssign : Scope → ℕ → AssignText → Type 0
FitsAssign s limit a = FitsField s Assigned a.ty_name a.ty a.field_name a.place × FitsValue s limit false (s.is_ref a.ty a.place) a.value

abbrev pub FitsSwitch : Scope → ℕ → SwitchText → Type 0
FitsSwitch s limit w = FitsType s Switched w.name w.ty × FitsExpr s limit 0 w.value

abbrev pub part_use : Change → TypeUse
part_use changes.Add = Added
part_use changes.Set = Set
part_use changes.SetShared = Shared

abbrev pub turn_use : Turn → TypeUse
turn_use turns.Remove = Removed
turn_use turns.Enable = Enabled
turn_use turns.Disable = Enabled

abbrev pub FitsCommand : Scope → ℕ → Command → Type 0
FitsCommand s limit (create name parts) = (s.is_new name ≡ true) × FitsParts s limit [] parts
FitsCommand s limit (destroy r) = FitsRef s true r
FitsCommand s limit (change c r p) = FitsRef s true r × FitsPart s limit (part_use c) p
FitsCommand s limit (turn t r name ty) = FitsRef s true r × FitsType s (turn_use t) name ty
FitsCommand s limit (instantiate name r) = (s.is_new name ≡ true) × FitsRef s true r
