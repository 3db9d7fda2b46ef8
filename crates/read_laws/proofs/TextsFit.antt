-- What a tree of the grammar means names only what its place has, where the names of its scope do.
use Rattle.std.proofs.Common.{ℕ, zero, suc, ◌≡◌, List, [], ◌∷◌, Bool, true, false, Some, map, refl, ◌∙◌, subst}
use Rattle.std.specs.Prelude.{ℤ, pos}
use Rattle.std.proofs.lemmas.Bool.{and_from}
use Rattle.ent_types.specs.declared.entity.TypeId.{TypeId}
use Rattle.ent_types.specs.declared.kinds.FieldKind.{FieldKind}
use Rattle.ent_types.specs.declared.kinds.FieldKind.TheVariants.{I32, I64, Ref as RefKind}
use Rattle.ent_types.specs.declared.type_info.FieldInfo.{FieldInfo}
use Rattle.ent_types.specs.declared.type_info.TypeInfo.{TypeInfo}
use Rattle.ent_types.specs.Types.{is_ref, is_ref_kind}
use Rattle.expr_trees.specs.declared.tree.Expr.{Expr}
use Rattle.expr_trees.specs.declared.tree.Expr.TheOpen.{Expr-F}
use Rattle.expr_trees.specs.declared.tree.Expr.TheFolds.{fold-roll-Expr, map-Expr}
use Rattle.expr_trees.specs.declared.tree.Expr.TheViews.{roll-Expr}
use Rattle.expr_trees.specs.declared.tree.Expr.TheVariants as exprs
use Rattle.expr_trees.specs.declared.tree.RefExpr.{RefExpr}
use Rattle.expr_trees.specs.declared.tree.Variable.{Variable}
use Rattle.expr_grammar.specs.declared.words.Call.TheVariants as calls
use Rattle.expr_grammar.specs.declared.words.FieldUse.TheVariants.{Number as NumberField, Entity as EntityField, Looked}
use Rattle.expr_grammar.specs.declared.words.TypeUse.TheVariants.{Asked, Own}
use Rattle.expr_grammar.specs.Fitting.{Fits, FitsRef, FitsExpr, FitsValue, FitsValues}
use Rattle.expr_grammar.specs.Grammar.{plain, own, Ref, entity, called, Sort, operand, suffix, expr, tail, Syntax, number, group, signed, named, alone, field, two, pick, get, alive, has, same, on, lone, chain, stop, more, Value, int, ref}
use Rattle.expr_grammar.specs.Meaning.{Meant, meaning, meaning_ref, meaning_value}
use Rattle.expr_grammar.specs.Scopes.{Scope}
use Rattle.scenario_record.specs.TextNames.{Names, none_made, ref_fits, fits_step, expr_fits, value_fits, values_fit}

-- each name that the scope knows is one of the place
pub record Serves (s : Scope) (names : Names) : Type 0 where
  pub variable : (n : List ℕ) (v : Variable) → s.variable n ≡ Some v → names.variable v ≡ true
  pub own_number : (ty : TypeId) (f : List ℕ) (i : ℕ) → s.field NumberField ty f ≡ Some i → names.own_number ty i ≡ true
  pub own_ref : (ty : TypeId) (f : List ℕ) (i : ℕ) → s.field EntityField ty f ≡ Some i → names.own_ref ty i ≡ true
  pub looked_up : (n : List ℕ) (ty : TypeId) (f : List ℕ) (i : ℕ) → s.call n ≡ Some calls.Get → s.field Looked ty f ≡ Some i → names.looked_up ty i ≡ true
  pub asked : (n : List ℕ) (ty : TypeId) → s.call n ≡ Some calls.Has → s.allows Asked ty ≡ true → names.asked ty ≡ true
  pub tested : (n : List ℕ) (ty : TypeId) → s.call n ≡ Some calls.On → s.allows Own ty ≡ true → names.tested ty ≡ true
  pub alive : (n : List ℕ) → s.call n ≡ Some calls.Alive → names.has_row ≡ true
  pub same : (n : List ℕ) → s.call n ≡ Some calls.Same → names.has_row ≡ true
  pub reference : (n : List ℕ) (r : RefExpr) → s.reference false n ≡ Some r → ref_fits names none_made r ≡ true

pub number_fits : (names : Names) (z : ℤ) → expr_fits names (exprs.Number z) ≡ true
number_fits names z = subst (λ e. expr_fits names e ≡ true) (exprs.rolls-Number z) (fold-roll-Expr Bool (fits_step names) (Expr-F.Number z))

pub variable_fits : (names : Names) (v : Variable) → names.variable v ≡ true → expr_fits names (exprs.Variable v) ≡ true
variable_fits names v known =
    subst (λ e. expr_fits names e ≡ true) (exprs.rolls-Variable v) (fold-roll-Expr Bool (fits_step names) (Expr-F.Variable v) ∙ known)

module _ (s : Scope) (limit : ℕ) (names : Names) (serves : Serves s names) where
  pub ref_ok : (made : ℕ → Bool) (b : Bool) → ((n : List ℕ) (r : RefExpr) → s.reference b n ≡ Some r → ref_fits names made r ≡ true)
      → (r : Ref) → FitsRef s b r → ref_fits names made (meaning_ref r) ≡ true
  ref_ok made b known (entity index version) fits = refl
  ref_ok made b known (called name (plain r)) fits = known name r fits
  ref_ok made b known (called name (own f ty i)) fits = serves.own_ref ty f i fits.1

  inner_ref : (r : Ref) → FitsRef s false r → ref_fits names none_made (meaning_ref r) ≡ true
  inner_ref = ref_ok none_made false serves.reference

  abbrev Good : Expr → Type 0
  Good e = expr_fits names e ≡ true

  rolled : (x : Expr-F Expr) (e : Expr) → roll-Expr x ≡ e → fits_step names (map-Expr Expr Bool (expr_fits names) x) ≡ true → Good e
  rolled x e is h = subst Good is (fold-roll-Expr Bool (fits_step names) x ∙ h)

  -- a tail is good behind what is good
  abbrev IsGood : (sort : Sort) → Meant sort → Type 0
  IsGood operand e = Good e
  IsGood suffix e = Good e
  IsGood expr e = Good e
  IsGood tail f = (left : Expr) → Good left → Good (f left)

  tree_ok : {sort : Sort} (level depth : ℕ) (name : List ℕ) (x : Syntax sort) → Fits s limit level depth name x → IsGood sort (meaning x)
  tree_ok level depth name (number n) h = number_fits names (pos n)
  tree_ok level depth name (group e) h = tree_ok 5 (suc depth) [] e h.1
  tree_ok level depth name (signed sign op o) h = rolled (Expr-F.Unary op (meaning o)) _ (exprs.rolls-Unary op (meaning o)) (tree_ok 0 (suc depth) [] o h.2)
  tree_ok level depth name (named n after) h = tree_ok 0 depth n after h
  tree_ok level depth name (alone v) h = variable_fits names v (serves.variable name v h)
  tree_ok level depth name (field f ty i) h = rolled (Expr-F.Own ty i) _ (exprs.rolls-Own ty i) (serves.own_number ty f i h.1)
  tree_ok level depth name (two op a b) h =
      rolled (Expr-F.Binary op (meaning a) (meaning b)) _ (exprs.rolls-Binary op (meaning a) (meaning b)) (and_from _ _ (tree_ok 5 (suc depth) [] a h.2) (tree_ok 5 (suc depth) [] b h.3))
  tree_ok level depth name (pick c a b) h =
      rolled (Expr-F.Pick (meaning c) (meaning a) (meaning b)) _ (exprs.rolls-Pick (meaning c) (meaning a) (meaning b))
      (and_from _ _ (tree_ok 5 (suc depth) [] c h.2) (and_from _ _ (tree_ok 5 (suc depth) [] a h.3) (tree_ok 5 (suc depth) [] b h.4)))
  tree_ok level depth name (get r t ty f i) h =
      rolled (Expr-F.Get (meaning_ref r) ty i) _ (exprs.rolls-Get (meaning_ref r) ty i) (and_from _ _ (inner_ref r h.2) (serves.looked_up name ty f i h.1 h.3.1))
  tree_ok level depth name (alive r) h = rolled (Expr-F.Alive (meaning_ref r)) _ (exprs.rolls-Alive (meaning_ref r)) (and_from _ _ (serves.alive name h.1) (inner_ref r h.2))
  tree_ok level depth name (has r t ty) h =
      rolled (Expr-F.Has (meaning_ref r) ty) _ (exprs.rolls-Has (meaning_ref r) ty) (and_from _ _ (inner_ref r h.2) (serves.asked name ty h.1 h.3.1))
  tree_ok level depth name (same r q) h =
      rolled (Expr-F.Same (meaning_ref r) (meaning_ref q)) _ (exprs.rolls-Same (meaning_ref r) (meaning_ref q)) (and_from _ _ (serves.same name h.1) (and_from _ _ (inner_ref r h.2) (inner_ref q h.3)))
  tree_ok level depth name (on t ty) h = rolled (Expr-F.On ty) _ (exprs.rolls-On ty) (serves.tested name ty h.1 h.2.1)
  tree_ok zero depth name (lone o) h = tree_ok 0 depth [] o h
  tree_ok (suc level) depth name (lone o) h = absurd h
  tree_ok zero depth name (chain e t) h = absurd h
  tree_ok (suc level) depth name (chain e t) h = tree_ok level depth [] t h.1 (meaning e) (tree_ok level depth [] e h.0)
  tree_ok level depth name stop h = λ left good. good
  tree_ok level depth name (more sign op e t) h =
      λ left good. tree_ok level depth [] t h.3 (exprs.Binary op left (meaning e))
      (rolled (Expr-F.Binary op left (meaning e)) _ (exprs.rolls-Binary op left (meaning e)) (and_from _ _ good (tree_ok level depth [] e h.1)))

  pub expr_ok : (e : Syntax expr) → FitsExpr s limit 0 e → expr_fits names (meaning e) ≡ true
  expr_ok e fits = tree_ok 5 0 [] e fits

  module _ (registry : List TypeInfo) (made : ℕ → Bool) where
    module _ (b : Bool) (known : (n : List ℕ) (r : RefExpr) → s.reference b n ≡ Some r → ref_fits names made r ≡ true) where
      pub value_ok : (kind : FieldKind) (v : Value) → FitsValue s limit b (is_ref_kind kind) v → value_fits registry names made kind (meaning_value v) ≡ true
      value_ok I32 (int e) h = expr_ok e h
      value_ok I64 (int e) h = expr_ok e h
      value_ok RefKind (int e) h = absurd h
      value_ok I32 (ref r) h = absurd h
      value_ok I64 (ref r) h = absurd h
      value_ok RefKind (ref r) h = ref_ok made b known r h

    pub values_ok : ((n : List ℕ) (r : RefExpr) → s.reference true n ≡ Some r → ref_fits names made r ≡ true)
        → (fs : List FieldInfo) (vs : List Value) → FitsValues s limit (map is_ref fs) vs → values_fit registry names made fs (map meaning_value vs) ≡ true
    values_ok known [] [] h = refl
    values_ok known [] (v ∷ vs) h = absurd h
    values_ok known (f ∷ fs) [] h = absurd h
    values_ok known (f ∷ fs) (v ∷ vs) h = and_from _ _ (value_ok true known f.kind v h.0) (values_ok known fs vs h.1)
