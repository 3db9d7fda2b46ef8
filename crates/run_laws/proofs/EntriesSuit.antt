-- What a run records suits the types of the world.
use Rattle.std.proofs.Common.{◌≡◌, ℕ, suc, ◌+◌, ◌%◌, inl, inr, Bool, true, false, if◌then◌else◌, List, [], ◌∷◌, ◌++◌, map, length, Option, Some, None, option_map, refl, sym, ap, ◌∙◌, subst, arith, true≢false}
use Rattle.std.specs.Prelude.{slice_index_or}
use Rattle.std.proofs.Math.Nat.{mod-eq_of_lt}
use Rattle.std.proofs.lemmas.Bool.{and_from}
use Rattle.ent_types.specs.declared.entity.Entity.{Entity}
use Rattle.ent_types.specs.declared.kinds.FieldKind.{FieldKind}
use Rattle.ent_types.specs.declared.kinds.FieldKind.TheVariants.{I32, I64, Ref as RefKind}
use Rattle.ent_types.specs.declared.type_info.FieldInfo.{FieldInfo}
use Rattle.ent_types.specs.declared.type_info.TypeInfo.{TypeInfo}
use Rattle.ent_types.specs.declared.value.Value.{Value}
use Rattle.ent_types.specs.declared.value.Value.TheVariants.{Int, Ref}
use Rattle.ent_types.specs.Fitting.{fits_field, fits_fields, fits_type}
use Rattle.ent_types.specs.Registries.{type_at}
use Rattle.ent_types.specs.Types.{is_buffer, is_ref_kind}
use Rattle.ent_types.specs.TypeLookups.{fields_at, field_kind_at}
use Rattle.world_model.specs.Members.{In, AreDistinct}
use Rattle.world_model.specs.Part.{PartOf, part_type, part_map}
use Rattle.world_model.specs.Fits.{IsFitting}
use Rattle.world_model.specs.Operations.{On, Act, act_map, Destroy, Add, Remove, Set, SetShared, SetEnabled, Instantiate}
use Rattle.world_laws.proofs.Members.{in_map}
use Rattle.expr_eval.specs.Values.{OwnRow, OtherRows, value}
use Rattle.expr_trees.specs.declared.tree.CommandText.{CommandText}
use Rattle.expr_trees.specs.declared.tree.CommandText.TheVariants as texts
use Rattle.expr_trees.specs.declared.tree.PartExpr.{PartExpr}
use Rattle.expr_trees.specs.declared.tree.ValueExpr.{ValueExpr}
use Rattle.expr_trees.specs.declared.tree.ValueExpr.TheVariants as values
use Rattle.scenario_record.specs.declared.record.CommandEntry.{CommandEntry}
use Rattle.scenario_record.specs.declared.record.SystemEntry.{SystemEntry}
use Rattle.world_model.specs.World.{World}
use Rattle.run_model.specs.Clock.{Clock}
use Rattle.run_model.specs.Job.{own_of, others_in}
use Rattle.run_model.specs.Commands.{Target, Live, Placeholder, GivenValue, ActsOn, Recorded, target_of, given_ref, given_of, givens_from, part_given, change_of, is_recorded, recorded_as, recorded_from}
use Rattle.run_model.specs.Run.{MatchedRow, Entry, entries_at, cells_after, recorded_of, matched, run}
use Rattle.run_model.specs.Playback.{value_given, operation_of}
use Rattle.run_laws.specs.Suits.{IsOfKind, AreOfKinds, PartSuits, CommandSuits, OperationSuits, AllSuit, SystemSuits}
use Rattle.run_laws.proofs.Order.{in_flat_map}
use Rattle.run_laws.proofs.RunLawful.{fit_fits}

ref_fits : (kind : FieldKind) → is_ref_kind kind ≡ true → (e : Entity) → fits_field kind (Ref e) ≡ true
ref_fits I32 h e = absurd (true≢false (sym h))
ref_fits I64 h e = absurd (true≢false (sym h))
ref_fits RefKind h e = refl

module _ (registry : List TypeInfo) (own : OwnRow) (others : OtherRows) (made : ℕ → Option Entity) where
  target_fits : (kind : FieldKind) (t : Target) → is_ref_kind kind ≡ true → fits_field kind (value_given made (given_ref kind t)) ≡ true
  target_fits kind (Live e) h = fit_fits kind (Ref e)
  target_fits kind (Placeholder k) h = ref_fits kind h _

  given_fits : (kind : FieldKind) (v : ValueExpr) → IsOfKind kind v → fits_field kind (value_given made (given_of own others kind v)) ≡ true
  given_fits kind (values.Int e) h = fit_fits kind (Int (value own others e))
  given_fits kind (values.Ref r) h = target_fits kind (target_of own r) h

  at_seam : (other : FieldInfo) (before : List FieldInfo) (f : FieldInfo) (after : List FieldInfo) → slice_index_or (before ++ f ∷ after) (length before) other ≡ f
  at_seam other [] f after = refl
  at_seam other (g ∷ before) f after = at_seam other before f after

  -- the values of the fields that follow `before`
  givens_fit : (t : ℕ) (before rest : List FieldInfo) (vs : List ValueExpr) → before ++ rest ≡ fields_at registry t → AreOfKinds rest vs
      → fits_fields rest (map (value_given made) (givens_from registry own others t (length before) vs)) ≡ true
  givens_fit t before [] [] e h = refl
  givens_fit t before [] (v ∷ vs) e h = absurd h
  givens_fit t before (f ∷ fs) [] e h = absurd h
  givens_fit t before (f ∷ fs) (v ∷ vs) e h =
      and_from (fits_field f.kind (value_given made (given_of own others (field_kind_at registry t (length before % length (fields_at registry t))) v)))
      (fits_fields fs (map (value_given made) (givens_from registry own others t (length before + 1) vs)))
      (subst (λ kind. fits_field f.kind (value_given made (given_of own others kind v)) ≡ true) (sym kind_is) (given_fits f.kind v h.0))
      (subst (λ n. fits_fields fs (map (value_given made) (givens_from registry own others t n vs)) ≡ true) one_more
      (givens_fit t (before ++ f ∷ []) fs vs (split before ∙ e) h.1))
    where
      counted : (xs : List FieldInfo) → length (xs ++ f ∷ fs) ≡ length xs + suc (length fs)
      counted [] = omega arith
      counted (x ∷ xs) = let rest = counted xs in omega arith

      kind_is : field_kind_at registry t (length before % length (fields_at registry t)) ≡ f.kind
      kind_is =
          let size : length (fields_at registry t) ≡ length before + suc (length fs) = sym (ap length e) ∙ counted before in
          ap (field_kind_at registry t) (mod-eq_of_lt {n = length before} {m = length (fields_at registry t)} (omega arith))
          ∙ (ap (λ (xs : List FieldInfo). (slice_index_or xs (length before) (record { name = []; kind = I32 })).kind) (sym e)
          ∙ ap (λ (g : FieldInfo). g.kind) (at_seam (record { name = []; kind = I32 }) before f fs))

      split : (xs : List FieldInfo) → (xs ++ f ∷ []) ++ fs ≡ xs ++ f ∷ fs
      split [] = refl
      split (x ∷ xs) = ap (λ ys. x ∷ ys) (split xs)

      one_more : length (before ++ f ∷ []) ≡ length before + 1
      one_more = count before
        where
          count : (xs : List FieldInfo) → length (xs ++ f ∷ []) ≡ length xs + 1
          count [] = refl
          count (x ∷ xs) = let rest = count xs in omega arith

  fields_fit : (info : TypeInfo) (vs : List Value) → is_buffer info.kind ≡ false → fits_fields info.fields vs ≡ true → fits_type info vs ≡ true
  unfolding fits_type
  fields_fit info vs plain h = rw plain h

  abbrev filled : PartExpr → PartOf Value
  filled p = part_map (value_given made) (part_given registry own others p)

  part_fits : (p : PartExpr) → PartSuits registry p → IsFitting registry (filled p)
  part_fits p h = record {
    known = h.known;
    fit = fields_fit (type_at registry p.ty.0) (map (value_given made) (givens_from registry own others p.ty.0 0 p.values)) h.plain
        (givens_fit p.ty.0 [] (fields_at registry p.ty.0) p.values refl h.values);
  }

  parts_fit : (ps : List PartExpr) → ((p : PartExpr) → In p ps → PartSuits registry p) → (q : PartOf Value)
      → In q (map (part_map (value_given made)) (map (part_given registry own others) ps)) → IsFitting registry q
  parts_fit ps h q i =
      let (g, j, e) = in_map (part_map (value_given made)) q (map (part_given registry own others) ps) i in
      let (p, k, f) = in_map (part_given registry own others) g ps j in
      subst (IsFitting registry) (sym (e ∙ ap (part_map (value_given made)) f)) (part_fits p (h p k))

  types_same : (ps : List PartExpr) → map part_type (map (part_map (value_given made)) (map (part_given registry own others) ps)) ≡ map (λ (p : PartExpr). p.ty.0) ps
  types_same [] = refl
  types_same (p ∷ ps) = ap (λ ts. p.ty.0 ∷ ts) (types_same ps)

  on_target : (t : Target) (a : Act GivenValue) → ((e : Entity) → OperationSuits registry (operation_of made (ActsOn (Live e) a))) → OperationSuits registry (operation_of made (ActsOn t a))
  on_target (Live e) a h = h e
  on_target (Placeholder k) a h = by (made k)
    where
      by : (o : Option Entity) → OperationSuits registry (option_map (λ e. On e (act_map (value_given made) a)) o)
      by None = tt
      by (Some e) = h e

  pub deed_suits : (act : CommandText) → CommandSuits registry act → OperationSuits registry (operation_of made (change_of registry own others act))
  deed_suits (texts.Create name ps) h = (parts_fit ps h.0, subst AreDistinct (sym (types_same ps)) h.1)
  deed_suits (texts.Destroy r) h = on_target (target_of own r) Destroy (λ e. tt)
  deed_suits (texts.Add r p) h = on_target (target_of own r) (Add (part_given registry own others p)) (λ e. part_fits p h)
  deed_suits (texts.Set r p) h = on_target (target_of own r) (Set (part_given registry own others p)) (λ e. (part_fits p h.0, h.1, h.0.plain))
  deed_suits (texts.SetShared r p) h = on_target (target_of own r) (SetShared (part_given registry own others p)) (λ e. (part_fits p h.0, h.1))
  deed_suits (texts.Remove r ty) h = on_target (target_of own r) (Remove ty.0) (λ e. h)
  deed_suits (texts.Enable r ty) h = on_target (target_of own r) (SetEnabled ty.0 true) (λ e. h)
  deed_suits (texts.Disable r ty) h = on_target (target_of own r) (SetEnabled ty.0 false) (λ e. h)
  deed_suits (texts.Instantiate name r) h = on_target (target_of own r) Instantiate (λ e. tt)

-- ---- entries

module _ (registry : List TypeInfo) (own : OwnRow) (others : OtherRows) where
  -- each record comes from one of the commands
  said_by : (n : ℕ) (recorded : List ℕ) (cs : List CommandEntry) (d : Recorded) → In d (recorded_from registry own others n recorded cs)
      → (c : CommandEntry) × In c cs × (d.change ≡ change_of registry own others c.act)
  said_by n recorded [] d h = absurd h
  said_by n recorded (c ∷ cs) d h = by (is_recorded registry own others recorded c) h (λ also. said_by (n + 1) also cs d)
    where
      by : (b : Bool) → In d ((if b then recorded_as registry own others n c ∷ [] else []) ++ recorded_from registry own others (n + 1) (if b then n ∷ recorded else recorded) cs)
          → ((also : List ℕ) → In d (recorded_from registry own others (n + 1) also cs) → (k : CommandEntry) × In k cs × (d.change ≡ change_of registry own others k.act))
          → (k : CommandEntry) × In k (c ∷ cs) × (d.change ≡ change_of registry own others k.act)
      by true (inl e) rest = (c, inl refl, ap (λ (x : Recorded). x.change) e)
      by true (inr i) rest = let (k, j, f) = rest (n ∷ recorded) i in (k, inr j, f)
      by false i rest = let (k, j, f) = rest recorded i in (k, inr j, f)

pub entries_suit : (clock : Clock) (s : SystemEntry) (last : Option ℕ) (frame : ℕ) (w : World) → SystemSuits w.registry s → AllSuit w.registry (run clock s last frame w).entries
unfolding run
entries_suit clock s last frame w suits x i made =
    let (m, j, k) = in_flat_map (λ m. entries_at m (recorded_of w.registry s (others_in w) frame m)) x (matched clock w.registry s last 0 w.blocks) i in
    let (d, l, e) = in_map (λ command. (let y : Entry = record { item = m.item; place = m.place; command = command } in y)) x (recorded_of w.registry s (others_in w) frame m) k in
    let (c, n, f) = said_by w.registry (own m) (others_in w) 0 [] s.command d l in
    subst (λ change. OperationSuits w.registry (operation_of made change)) (sym (ap (λ (y : Entry). y.command.change) e ∙ f))
    (deed_suits w.registry (own m) (others_in w) made c.act (suits.commands c n))
  where
    own : MatchedRow → OwnRow
    own m = own_of w.registry (record { frame = frame; item = m.item; place = m.place }) m.at.home m.at.row.entity
        (cells_after w.registry s (others_in w) (record { frame = frame; item = m.item; place = m.place }) m.at)
