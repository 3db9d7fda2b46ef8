-- The values of a part, and the parts of a row, one after another.
use Rattle.std.proofs.Common.{◌≡◌, ℕ, zero, suc, ◌+◌, ◌%◌, ◌<◌, inl, inr, List, [], ◌∷◌, ◌++◌, map, length, get_or, take, drop, drop-cons, add-one, refl, sym, ap, ap₂, ◌∙◌, subst, append_assoc, arith}
use Rattle.std.proofs.lemmas.List.{take_more}
use Rattle.ent_types.specs.declared.kinds.FieldKind.{FieldKind}
use Rattle.ent_types.specs.declared.type_info.TypeInfo.{TypeInfo}
use Rattle.ent_types.specs.TypeLookups.{fields_at, field_kind_at}
use Rattle.world_model.specs.Members.{In}
use Rattle.world_laws.proofs.Members.{map_append}
use Rattle.expr_eval.specs.Values.{OwnRow, OtherRows}
use Rattle.expr_trees.specs.declared.tree.ValueExpr.{ValueExpr}
use Rattle.expr_trees.specs.declared.tree.PartExpr.{PartExpr}
use Rattle.run_model.specs.Commands.{GivenValue, given_of, givens_from, part_given}
use Rattle.command_record.specs.declared.command.CmdValue.{CmdValue}
use Rattle.command_record.specs.declared.command.CmdPart.{CmdPart}
use Rattle.command_record.specs.Entries.{value_of, part_of, OwnValue, OwnPart}

-- each member of a list has a property, and so has one more
pub all_more : {X : Type 0} (P : X → Type 0) (xs : List X) (x : X) → ((y : X) → In y xs → P y) → P x → (y : X) → In y (xs ++ x ∷ []) → P y
all_more P [] x all here y (inl e) = subst P (sym e) here
all_more P [] x all here y (inr i) = absurd i
all_more P (z ∷ zs) x all here y (inl e) = all y (inl e)
all_more P (z ∷ zs) x all here y (inr i) = all_more P zs x (λ u j. all u (inr j)) here y i

-- the member at a place has what each has
pub all_at : {X : Type 0} (P : X → Type 0) (xs : List X) → ((x : X) → In x xs → P x) → (i : ℕ) (x : X) → i < length xs → x ≡ get_or xs i x → P x
all_at P [] all i x less is = absurd (omega (arith, less))
all_at P (y ∷ ys) all zero x less is = subst P (sym is) (all y (inl refl))
all_at P (y ∷ ys) all (suc i) x less is = all_at P ys (λ z j. all z (inr j)) i x (omega (arith, less)) is

module _ (registry : List TypeInfo) (own : OwnRow) (others : OtherRows) (place : ℕ) (t : ℕ) where
  -- With the values of the texts that are left, from this place on, they are those of all texts. Their placeholders are of the row.
  pub record AreSoFar (made : List CmdValue) (at : ℕ) (rest all : List ValueExpr) : Type 0 where
    pub values : map value_of made ++ givens_from registry own others t at rest ≡ givens_from registry own others t 0 all
    pub of_row : (v : CmdValue) → In v made → OwnValue place v

  one_more : (made : List CmdValue) (at : ℕ) (text : ValueExpr) (rest all : List ValueExpr) (v : CmdValue)
      → value_of v ≡ given_of own others (field_kind_at registry t (at % length (fields_at registry t))) text → OwnValue place v
      → AreSoFar made at (text ∷ rest) all → AreSoFar (made ++ v ∷ []) (at + 1) rest all
  one_more made at text rest all v is mine so_far = record {
    values = ap (λ gs. gs ++ givens_from registry own others t (at + 1) rest) (map_append value_of made (v ∷ []))
        ∙ (append_assoc (map value_of made) (value_of v ∷ []) (givens_from registry own others t (at + 1) rest)
        ∙ (ap (λ (g : GivenValue). map value_of made ++ g ∷ givens_from registry own others t (at + 1) rest) is ∙ so_far.values));
    of_row = all_more (OwnValue place) made v so_far.of_row mine;
  }

  -- the loop goes over a slice that shows the texts
  pub value_more : (texts shown : List ValueExpr) (made pushed : List CmdValue) (at : ℕ) (text : ValueExpr) (kind : FieldKind) (v : CmdValue)
      → shown ≡ texts → at < length shown → text ≡ get_or shown at text → pushed ≡ made ++ v ∷ []
      → kind ≡ field_kind_at registry t (at % length (fields_at registry t)) → value_of v ≡ given_of own others kind text → OwnValue place v
      → AreSoFar made at (drop at texts) texts → AreSoFar pushed (at + 1) (drop (at + 1) texts) texts
  value_more texts shown made pushed at text kind v same less here more of is mine so_far =
      subst (λ vs. AreSoFar vs (at + 1) (drop (at + 1) texts) texts) (sym more)
      (one_more made at text (drop (at + 1) texts) texts v (is ∙ ap (λ k. given_of own others k text) of) mine
      (subst (λ rest. AreSoFar made at rest texts)
      (drop-cons texts at text (subst (λ (ts : List ValueExpr). at < length ts) same less)
      ∙ ap₂ (λ u n. u ∷ drop n texts) (sym (subst (λ (ts : List ValueExpr). text ≡ get_or ts at text) same here)) (sym (add-one at))) so_far))

module _ (registry : List TypeInfo) (own : OwnRow) (others : OtherRows) (place : ℕ) where
  -- These are the parts of some texts. Their placeholders are of the row.
  pub record AreParts (made : List CmdPart) (texts : List PartExpr) : Type 0 where
    pub parts : map part_of made ≡ map (part_given registry own others) texts
    pub of_row : (p : CmdPart) → In p made → OwnPart place p

  pub part_more : (texts : List PartExpr) (made pushed : List CmdPart) (i : ℕ) (text : PartExpr) (p : CmdPart)
      → i < length texts → text ≡ get_or texts i text → pushed ≡ made ++ p ∷ []
      → part_of p ≡ part_given registry own others text → OwnPart place p → AreParts made (take i texts) → AreParts pushed (take (i + 1) texts)
  part_more texts made pushed i text p less here more is mine so_far =
      subst (λ ps. AreParts ps (take (i + 1) texts)) (sym more) (record {
        parts = map_append part_of made (p ∷ [])
            ∙ (ap₂ (λ gs g. gs ++ g ∷ []) so_far.parts (is ∙ ap (part_given registry own others) here)
            ∙ (sym (map_append (part_given registry own others) (take i texts) (get_or texts i text ∷ []))
            ∙ ap (map (part_given registry own others)) (sym (take_more texts i text less))));
        of_row = all_more (OwnPart place) made p so_far.of_row mine;
      })
