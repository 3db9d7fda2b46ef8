-- A text sees no types but those that it names: where the rows and the lookups agree on these, it gives the same values.
use Rattle.std.proofs.Common.{◌≡◌, ℕ, ℤ, pos, ◌+◌, ◌%◌, inl, inr, nat_eq, Bool, true, false, not, ◌&&◌, ◌||◌, if◌then◌else◌, List, [], ◌∷◌, ◌++◌, length, map, Option, Some, option_map, refl, sym, ap, ap₂, ◌∙◌, subst, eqb-true, unwrap_or, slice_get, slice_set}
use Rattle.std.specs.Prelude.{option_and_then}
use Rattle.std.specs.Option.{option_or}
use Rattle.std.specs.Int.{int_wrap, w32}
use Rattle.std.specs.List.{list_all, list_any, flat_map}
use Rattle.ent_types.specs.declared.entity.Entity.{Entity}
use Rattle.ent_types.specs.declared.entity.TypeId.{TypeId}
use Rattle.ent_types.specs.declared.kinds.FieldKind.{FieldKind}
use Rattle.ent_types.specs.declared.type_info.TypeInfo.{TypeInfo}
use Rattle.ent_types.specs.declared.value.Value.TheVariants.{Int, Ref}
use Rattle.ent_types.specs.Fitting.{fit}
use Rattle.ent_types.specs.TypeLookups.{fields_at, field_kind_at, is_enableable_at}
use Rattle.ent_types.specs.TypeSets.{has_type}
use Rattle.world_model.specs.Part.{PartOf}
use Rattle.world_model.specs.Row.{Cell}
use Rattle.world_model.specs.World.{Home}
use Rattle.world_model.specs.Found.{cell_at, part_at}
use Rattle.world_model.specs.Operations.{Act, Destroy, Add, Remove, Set, SetShared, SetEnabled, Instantiate, with_values, switched}
use Rattle.expr_eval.specs.Values.{OwnRow, OtherRows, value, value_step, value_ref, value_variable, value_unary, value_binary, number, number_or_zero, entity, truth, is_true}
use Rattle.world_model.specs.Part.{same_entity}
use Rattle.expr_trees.specs.declared.tree.Expr.{Expr}
use Rattle.expr_trees.specs.declared.tree.Expr.TheOpen.{Expr-F}
use Rattle.expr_trees.specs.declared.tree.Expr.TheFolds.{fold-roll-Expr, ind-Expr, map-Expr}
use Rattle.expr_trees.specs.declared.tree.Expr.TheViews.{roll-Expr}
use Rattle.expr_trees.specs.declared.tree.RefExpr.{RefExpr}
use Rattle.expr_trees.specs.declared.tree.RefExpr.TheVariants as refs
use Rattle.expr_trees.specs.declared.tree.Variable.{Variable}
use Rattle.expr_trees.specs.declared.tree.Variable.TheVariants.{Frame, Chunk, Row, Index, Version, N}
use Rattle.expr_trees.specs.declared.tree.ValueExpr.{ValueExpr}
use Rattle.expr_trees.specs.declared.tree.ValueExpr.TheVariants as values
use Rattle.expr_trees.specs.declared.tree.PartExpr.{PartExpr}
use Rattle.expr_trees.specs.declared.tree.CommandText.{CommandText}
use Rattle.expr_trees.specs.declared.tree.CommandText.TheVariants as texts
use Rattle.scenario_record.specs.declared.record.CommandEntry.{CommandEntry}
use Rattle.scenario_record.specs.Uses.{Use, own_number, own_ref, looked_up, has_type as tested_type, on_type, read_types, in_ref, expr_step, in_expr, in_value, in_part, in_act, in_command}
use Rattle.world_model.specs.Members.{In}
use Rattle.run_model.specs.Query.{is_off}
use Rattle.run_model.specs.Job.{Spot, own_of, fitted, Text, Assigns, Switches, after_text, after_texts}
use Rattle.run_model.specs.Commands.{Live, GivenValue, Known, Creates, ActsOn, Recorded, target_of, given_ref, given_of, givens_from, part_given, change_of, placeholders_in, is_recorded, recorded_as, recorded_from}
use Rattle.run_laws.specs.Agree.{CellAgree, CellsAgree, OthersAgree}
use Rattle.world_laws.proofs.Members.{in_left, in_right}
use Rattle.run_laws.proofs.Lists.{both_map, Within, within_left, within_right}

-- what a text names
abbrev pub text_uses : Text → List Use
text_uses (Assigns a) = in_value a.value
text_uses (Switches w) = in_expr w.value

module _ (X : ℕ → Type 0) where
  -- the types that these uses read
  abbrev pub Sees : List Use → Type 0
  Sees us = (u : Use) → In u us → Within (read_types u) X

  pub sees_left : (us vs : List Use) → Sees (us ++ vs) → Sees us
  sees_left us vs h u i = h u (in_left u us vs i)

  pub sees_right : (us vs : List Use) → Sees (us ++ vs) → Sees vs
  sees_right us vs h u i = h u (in_right u us vs i)

  pub seen : (us : List Use) → Within (flat_map read_types us) X → Sees us
  seen [] h u i = absurd i
  seen (v ∷ us) h u (inl e) = subst (λ (w : Use). Within (read_types w) X) (sym e) (within_left (read_types v) (flat_map read_types us) X h)
  seen (v ∷ us) h u (inr i) = seen us (within_right (read_types v) (flat_map read_types us) X h) u i

  abbrev pub AllSeen : List Text → Type 0
  AllSeen [] = Unit {0}
  AllSeen (t ∷ ts) = Sees (text_uses t) × AllSeen ts

  pub cell_same : (t : ℕ) → X t → (cs ds : List Cell) → CellsAgree X cs ds → cell_at t cs ≡ cell_at t ds
  cell_same t x [] [] h = refl
  cell_same t x [] (d ∷ ds) h = absurd h
  cell_same t x (c ∷ cs) [] h = absurd h
  cell_same t x (c ∷ cs) (d ∷ ds) h =
      by (nat_eq c.type_id t) refl (cell_same t x cs ds h.1)
      ∙ ap (λ n. if nat_eq n t then Some d else cell_at t ds) h.0.0
    where
      by : (b : Bool) → nat_eq c.type_id t ≡ b → cell_at t cs ≡ cell_at t ds
          → (if b then Some c else cell_at t cs) ≡ (if b then Some d else cell_at t ds)
      by true e rest = ap (λ (k : Cell). Some k) (h.0.1 (subst X (sym (eqb-true c.type_id t e)) x))
      by false e rest = rest

  any_off : (t : ℕ) → X t → (cs ds : List Cell) → CellsAgree X cs ds → list_any (λ (c : Cell). nat_eq c.type_id t && c.off) cs ≡ list_any (λ (c : Cell). nat_eq c.type_id t && c.off) ds
  any_off t x [] [] h = refl
  any_off t x [] (d ∷ ds) h = absurd h
  any_off t x (c ∷ cs) [] h = absurd h
  any_off t x (c ∷ cs) (d ∷ ds) h =
      ap₂ (λ b r. b || r) (by (nat_eq c.type_id t) refl ∙ ap (λ n. nat_eq n t && d.off) h.0.0) (any_off t x cs ds h.1)
    where
      by : (b : Bool) → nat_eq c.type_id t ≡ b → (b && c.off) ≡ (b && d.off)
      by true e = ap (λ (k : Cell). k.off) (h.0.1 (subst X (sym (eqb-true c.type_id t e)) x))
      by false e = refl

  module _ (registry : List TypeInfo) where
    pub off_same : (t : ℕ) → (is_enableable_at registry t ≡ true → X t) → (cs ds : List Cell) → CellsAgree X cs ds → is_off registry t cs ≡ is_off registry t ds
    off_same t x cs ds h = by (is_enableable_at registry t) refl
      where
        by : (b : Bool) → is_enableable_at registry t ≡ b → (b && list_any (λ (c : Cell). nat_eq c.type_id t && c.off) cs) ≡ (b && list_any (λ (c : Cell). nat_eq c.type_id t && c.off) ds)
        by true e = any_off t (x e) cs ds h
        by false e = refl

    module _ (spot : Spot) (home : Home) (me : Entity) (o p : OtherRows) (others : OthersAgree X o p) where
      abbrev own : List Cell → OwnRow
      own cells = own_of registry spot home me cells

      module _ (cs ds : List Cell) (agree : CellsAgree X cs ds) where
        field_same : (ty : TypeId) (i : ℕ) → X ty.0 → (own cs).field ty i ≡ (own ds).field ty i
        field_same ty i x =
            ap (λ (k : Option Cell). unwrap_or (option_and_then (λ vs. slice_get vs i) (option_or (option_map (λ c. c.values) k) (part_at ty.0 home.shared))) (Int (pos 0)))
            (cell_same ty.0 x cs ds agree)

        ref_agree : (r : RefExpr) → Sees (in_ref r) → value_ref (own cs) r ≡ value_ref (own ds) r
        ref_agree refs.Null w = refl
        ref_agree refs.Me w = refl
        ref_agree (refs.Made k) w = refl
        ref_agree (refs.Own ty i) w = ap entity (field_same ty i (w (own_ref ty.0 i) (inl refl) ty.0 (inl refl)))
        ref_agree (refs.Entity e) w = refl

        variable_agree : (v : Variable) → value_variable (own cs) v ≡ value_variable (own ds) v
        variable_agree Frame = refl
        variable_agree Chunk = refl
        variable_agree Row = refl
        variable_agree Index = refl
        variable_agree Version = refl
        variable_agree N = refl

        -- ---- expressions

        abbrev IsSame : Expr → Type 0
        IsSame e = Sees (in_expr e) → value (own cs) o e ≡ value (own ds) p e

        rolled : (x : Expr-F Expr)
            → (Sees (expr_step (map-Expr Expr (List Use) in_expr x))
            → value_step (own cs) o (map-Expr Expr ℤ (value (own cs) o) x) ≡ value_step (own ds) p (map-Expr Expr ℤ (value (own ds) p) x))
            → IsSame (roll-Expr x)
        rolled x h w =
            fold-roll-Expr ℤ (value_step (own cs) o) x
            ∙ (h (subst Sees (fold-roll-Expr (List Use) expr_step x) w)
            ∙ sym (fold-roll-Expr ℤ (value_step (own ds) p) x))

        layer : (y : Expr-F ((e : Expr) × IsSame e)) → IsSame (roll-Expr (map-Expr ((e : Expr) × IsSame e) Expr (λ e. e.0) y))
        layer (Expr-F.Number z) = rolled (Expr-F.Number z) (λ w. refl)
        layer (Expr-F.Variable v) = rolled (Expr-F.Variable v) (λ w. variable_agree v)
        layer (Expr-F.Own ty i) = rolled (Expr-F.Own ty i) (λ w. ap number (field_same ty i (w (own_number ty.0 i) (inl refl) ty.0 (inl refl))))
        layer (Expr-F.Unary op a) = rolled (Expr-F.Unary op a.0) (λ w. ap (value_unary op) (a.1 w))
        layer (Expr-F.Binary op a b) = rolled (Expr-F.Binary op a.0 b.0)
            (λ w. ap₂ (value_binary op) (a.1 (sees_left (in_expr a.0) (in_expr b.0) w)) (b.1 (sees_right (in_expr a.0) (in_expr b.0) w)))
        layer (Expr-F.Pick c a b) = rolled (Expr-F.Pick c.0 a.0 b.0)
            (λ w. let rest = sees_right (in_expr c.0) (in_expr a.0 ++ in_expr b.0) w in
            ap₂ (λ (u : Bool) (v : ℤ × ℤ). if u then v.0 else v.1)
            (ap is_true (c.1 (sees_left (in_expr c.0) (in_expr a.0 ++ in_expr b.0) w)))
            (ap₂ (λ y z. (y, z)) (a.1 (sees_left (in_expr a.0) (in_expr b.0) rest)) (b.1 (sees_right (in_expr a.0) (in_expr b.0) rest))))
        layer (Expr-F.Get r ty i) = rolled (Expr-F.Get r ty i)
            (λ w. ap (λ d. number_or_zero (o.value d ty i)) (ref_agree r (sees_left (in_ref r) (looked_up ty.0 i ∷ []) w))
            ∙ ap number_or_zero (others.value (value_ref (own ds) r) ty i (sees_right (in_ref r) (looked_up ty.0 i ∷ []) w (looked_up ty.0 i) (inl refl) ty.0 (inl refl))))
        layer (Expr-F.Alive r) = rolled (Expr-F.Alive r)
            (λ w. ap (λ d. truth (o.alive d)) (ref_agree r w) ∙ ap truth (others.alive (value_ref (own ds) r)))
        layer (Expr-F.Has r ty) = rolled (Expr-F.Has r ty)
            (λ w. ap (λ d. truth (o.has d ty)) (ref_agree r (sees_left (in_ref r) (tested_type ty.0 ∷ []) w)) ∙ ap truth (others.has (value_ref (own ds) r) ty))
        layer (Expr-F.Same r q) = rolled (Expr-F.Same r q)
            (λ w. ap₂ (λ d e. truth (same_entity d e)) (ref_agree r (sees_left (in_ref r) (in_ref q) w)) (ref_agree q (sees_right (in_ref r) (in_ref q) w)))
        layer (Expr-F.On ty) = rolled (Expr-F.On ty)
            (λ w. ap (λ b. truth (has_type home.types ty.0 && not b)) (off_same ty.0 (λ e. w (on_type ty.0) (inl refl) ty.0 (inl refl)) cs ds agree))

        pub value_agree : (e : Expr) → IsSame e
        value_agree = ind-Expr IsSame (λ x y is. subst (λ (z : Expr-F Expr). IsSame (roll-Expr z)) is (layer y))

        -- ---- texts that write

        pub fitted_agree : (kind : FieldKind) (v : ValueExpr) → Sees (in_value v) → fitted kind (own cs) o v ≡ fitted kind (own ds) p v
        fitted_agree kind (values.Int e) w = ap (λ z. fit kind (Int z)) (value_agree e w)
        fitted_agree kind (values.Ref r) w = ap (λ d. fit kind (Ref d)) (ref_agree r w)

        text_agree : (t : Text) → Sees (text_uses t) → CellsAgree X (after_text registry o (own cs) t cs) (after_text registry p (own ds) t ds)
        text_agree (Assigns a) w =
            subst (λ v. CellsAgree X (after_text registry o (own cs) (Assigns a) cs) (with_values a.ty.0 (λ vs. slice_set vs a.field v) ds))
            (fitted_agree (field_kind_at registry a.ty.0 a.field) a.value w)
            (both_map (CellAgree X) (CellAgree X) set set (λ c d h. (h.0, λ x. ap set (h.1 x))) cs ds agree)
          where
            set : Cell → Cell
            set c = record c { values = if nat_eq c.type_id a.ty.0 then slice_set c.values a.field (fitted (field_kind_at registry a.ty.0 a.field) (own cs) o a.value) else c.values }
        text_agree (Switches s) w =
            subst (λ z. CellsAgree X (after_text registry o (own cs) (Switches s) cs) (switched s.ty.0 (is_true z) ds)) (value_agree s.value w)
            (both_map (CellAgree X) (CellAgree X) turn turn (λ c d h. (h.0, λ x. ap turn (h.1 x))) cs ds agree)
          where
            turn : Cell → Cell
            turn c = record c { off = if nat_eq c.type_id s.ty.0 then not (is_true (value (own cs) o s.value)) else c.off }

        -- ---- commands

        target_agree : (r : RefExpr) → Sees (in_ref r) → target_of (own cs) r ≡ target_of (own ds) r
        target_agree refs.Null w = refl
        target_agree refs.Me w = refl
        target_agree (refs.Made k) w = refl
        target_agree (refs.Own ty i) w = ap Live (ref_agree (refs.Own ty i) w)
        target_agree (refs.Entity e) w = refl

        given_agree : (kind : FieldKind) (v : ValueExpr) → Sees (in_value v) → given_of (own cs) o kind v ≡ given_of (own ds) p kind v
        given_agree kind (values.Int e) w = ap (λ z. Known (fit kind (Int z))) (value_agree e w)
        given_agree kind (values.Ref r) w = ap (given_ref kind) (target_agree r w)

        givens_agree : (t k : ℕ) (vs : List ValueExpr) → Sees (flat_map in_value vs)
            → givens_from registry (own cs) o t k vs ≡ givens_from registry (own ds) p t k vs
        givens_agree t k [] w = refl
        givens_agree t k (v ∷ vs) w =
            ap₂ (λ (g : GivenValue) gs. g ∷ gs)
            (given_agree (field_kind_at registry t (k % length (fields_at registry t))) v
            (sees_left (in_value v) (flat_map in_value vs) w))
            (givens_agree t (k + 1) vs (sees_right (in_value v) (flat_map in_value vs) w))

        part_agree : (q : PartExpr) → Sees (in_part q) → part_given registry (own cs) o q ≡ part_given registry (own ds) p q
        part_agree q w = ap (λ gs. let r : PartOf GivenValue = record { type_id = q.ty.0; values = gs } in r) (givens_agree q.ty.0 0 q.values w)

        parts_agree : (qs : List PartExpr) → Sees (flat_map in_part qs)
            → map (part_given registry (own cs) o) qs ≡ map (part_given registry (own ds) p) qs
        parts_agree [] w = refl
        parts_agree (q ∷ qs) w =
            ap₂ (λ (r : PartOf GivenValue) rs. r ∷ rs) (part_agree q (sees_left (in_part q) (flat_map in_part qs) w))
            (parts_agree qs (sees_right (in_part q) (flat_map in_part qs) w))

        on_part : (f : PartOf GivenValue → Act GivenValue) (r : RefExpr) (q : PartExpr) → Sees (in_ref r ++ in_part q)
            → ActsOn (target_of (own cs) r) (f (part_given registry (own cs) o q)) ≡ ActsOn (target_of (own ds) r) (f (part_given registry (own ds) p q))
        on_part f r q w =
            ap₂ (λ t g. ActsOn t (f g)) (target_agree r (sees_left (in_ref r) (in_part q) w))
            (part_agree q (sees_right (in_ref r) (in_part q) w))

        deed_agree : (a : CommandText) → Sees (in_act a)
            → change_of registry (own cs) o a ≡ change_of registry (own ds) p a
        deed_agree (texts.Create name qs) w = ap Creates (parts_agree qs w)
        deed_agree (texts.Destroy r) w = ap (λ t. ActsOn t Destroy) (target_agree r w)
        deed_agree (texts.Add r q) w = on_part Add r q w
        deed_agree (texts.Set r q) w = on_part Set r q w
        deed_agree (texts.SetShared r q) w = on_part SetShared r q w
        deed_agree (texts.Remove r ty) w = ap (λ t. ActsOn t (Remove ty.0)) (target_agree r w)
        deed_agree (texts.Enable r ty) w = ap (λ t. ActsOn t (SetEnabled ty.0 true)) (target_agree r w)
        deed_agree (texts.Disable r ty) w = ap (λ t. ActsOn t (SetEnabled ty.0 false)) (target_agree r w)
        deed_agree (texts.Instantiate name r) w = ap (λ t. ActsOn t Instantiate) (target_agree r w)

        pub said_agree : (ks : List CommandEntry) → Sees (flat_map in_command ks) → (n : ℕ) (recorded : List ℕ)
            → recorded_from registry (own cs) o n recorded ks ≡ recorded_from registry (own ds) p n recorded ks
        said_agree [] w n recorded = refl
        said_agree (c ∷ ks) w n recorded =
            let here = sees_left (in_command c) (flat_map in_command ks) w in
            let late = sees_right (in_expr c.when) (in_expr c.key ++ in_act c.act) here in
            let test : is_recorded registry (own cs) o recorded c ≡ is_recorded registry (own ds) p recorded c =
            ap (λ z. is_true z && list_all (has_type recorded) (placeholders_in c.act))
            (value_agree c.when (sees_left (in_expr c.when) (in_expr c.key ++ in_act c.act) here)) in
            let command : recorded_as registry (own cs) o n c ≡ recorded_as registry (own ds) p n c =
            ap₂ (λ z d. let x : Recorded = record { key = int_wrap w32 z; point = c.buffer; number = n; change = d } in x)
            (value_agree c.key (sees_left (in_expr c.key) (in_act c.act) late))
            (deed_agree c.act (sees_right (in_expr c.key) (in_act c.act) late)) in
            ap₂ (λ us vs. us ++ vs) (ap₂ (λ b (x : Recorded). if b then x ∷ [] else []) test command)
            (ap (λ b. recorded_from registry (own cs) o (n + 1) (if b then n ∷ recorded else recorded) ks) test
            ∙ said_agree ks (sees_right (in_command c) (flat_map in_command ks) w) (n + 1)
            (if is_recorded registry (own ds) p recorded c then n ∷ recorded else recorded))

      pub texts_agree : (ts : List Text) → AllSeen ts → (cs ds : List Cell) → CellsAgree X cs ds
          → CellsAgree X (after_texts registry o spot home me ts cs) (after_texts registry p spot home me ts ds)
      texts_agree [] w cs ds h = h
      texts_agree (t ∷ ts) w cs ds h =
          texts_agree ts w.1 (after_text registry o (own cs) t cs) (after_text registry p (own ds) t ds) (text_agree cs ds h t w.0)
