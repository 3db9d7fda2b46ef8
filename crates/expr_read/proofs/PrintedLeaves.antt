-- Printed references, and expressions without operands.
use Rattle.std.proofs.Common.{ℕ, ◌≡◌, ◌^◌, ◌<◌, List, ◌++◌, true, codes, refl, sym, ap, subst, arith, true≢false}
use Rattle.std.specs.Prelude.{ℤ, pos, negsuc}
use Rattle.std.specs.Fmt.{decimal, signed_decimal}
use Rattle.std.proofs.lemmas.Bool.{and_parts, ltb-true}
use Rattle.ent_types.specs.declared.entity.TypeId.{TypeId}
use Rattle.ent_types.specs.declared.entity.Entity.{Entity}
use Rattle.ent_types.specs.declared.type_info.TypeInfo.{TypeInfo}
use Rattle.ent_types.specs.Registries.{IsLawfulRegistry}
use Rattle.expr_trees.specs.declared.tree.Expr.TheVariants as exprs
use Rattle.expr_trees.specs.declared.tree.RefExpr.{RefExpr}
use Rattle.expr_trees.specs.declared.tree.RefExpr.TheVariants as refs
use Rattle.expr_trees.specs.declared.tree.Variable.{Variable}
use Rattle.expr_grammar.specs.Grammar.{plain, own, entity, called, expr, Syntax, number, named, alone, field, get, alive, has, same, on, spell, spell_ref}
use Rattle.expr_grammar.specs.Meaning.{meaning_ref}
use Rattle.expr_read.specs.PrintedTexts.{field_at, field_text, is_int, is_named_field, is_named_type, is_spelled_ref, ref_text, type_name, variable_word}
use Rattle.expr_grammar.specs.declared.words.FieldUse.TheVariants as uses
use Rattle.expr_read.proofs.PrintedNames.{type_found, field_found}
use Rattle.expr_read.proofs.PrintedTokens.{Lexes, lex_name, lex_number, lex_close, lex_comma, lex_colon}
use Rattle.expr_read.proofs.PrintedTrees.{after_five, after_three, fits_whole, lex_call, lex_field, variable_facts, whole, Printed, PrintedRef}

module _ (types : List TypeInfo) (lawful : IsLawfulRegistry types) where
  printed_own_ref : (ty : TypeId) (i : ℕ) → is_named_field types ty i ≡ true → PrintedRef types (refs.Own ty i) (field_text types ty i)
  printed_own_ref ty i passed =
      let there = (and_parts _ _ passed).0 in
      record {
        tree = called (type_name types ty) (own (field_at types ty i).name ty i);
        means = refl;
        fits = (type_found types lawful ty (and_parts _ _ there).0, field_found types lawful uses.Entity ty i there);
        lexes = λ rest ts ends h. lex_field types ty i passed ends h;
      }

  printed_entity : (e : Entity) → e.index < 2 ^ 32 → e.version < 2 ^ 32 → PrintedRef types (refs.Entity e) (decimal e.index ++ (codes ":" ++ decimal e.version))
  printed_entity e index version = record {
    tree = entity e.index e.version;
    means = refl;
    fits = (index, version);
    lexes = λ rest ts ends h.
        subst (λ t. Lexes t (spell_ref (entity e.index e.version) ts)) (sym (after_three (decimal e.index) (codes ":") (decimal e.version) rest))
        (lex_number e.index (omega arith) refl (lex_colon (lex_number e.version (omega arith) ends h)));
  }

  pub printed_ref : (r : RefExpr) → is_spelled_ref types r ≡ true → PrintedRef types r (ref_text types r)
  printed_ref refs.Null h = record { tree = called (codes "null") (plain refs.Null); means = refl; fits = refl; lexes = λ rest ts ends h. lex_name (codes "null") refl ends h }
  printed_ref refs.Me h = record { tree = called (codes "self") (plain refs.Me); means = refl; fits = refl; lexes = λ rest ts ends h. lex_name (codes "self") refl ends h }
  printed_ref (refs.Made k) h = absurd (true≢false (sym h))
  printed_ref (refs.Own ty i) h = printed_own_ref ty i h
  printed_ref (refs.Entity e) h = let both = and_parts _ _ h in printed_entity e (ltb-true _ _ both.0) (ltb-true _ _ both.1)

  -- ---- expressions without operands
  pub printed_number : (z : ℤ) → is_int z ≡ true → Printed types (exprs.Number z) (signed_decimal z)
  printed_number (pos n) h = record {
    tree = whole (number n);
    height = 0;
    means = refl;
    fits = λ limit depth le. fits_whole types limit depth (number n) (ltb-true _ _ h);
    lexes = λ rest ts ends h'. lex_number n (ltb-true _ _ h) ends h';
  }
  printed_number (negsuc n) h = absurd (true≢false (sym h))

  pub printed_variable : (v : Variable) → Printed types (exprs.Variable v) (variable_word v)
  printed_variable v = record {
    tree = whole (named (variable_word v) (alone v));
    height = 0;
    means = refl;
    fits = λ limit depth le. fits_whole types limit depth (named (variable_word v) (alone v)) (variable_facts v).1;
    lexes = λ rest ts ends h. lex_name (variable_word v) (variable_facts v).0 ends h;
  }

  pub printed_own : (ty : TypeId) (i : ℕ) → is_named_field types ty i ≡ true → Printed types (exprs.Own ty i) (field_text types ty i)
  printed_own ty i h =
      let there = (and_parts _ _ h).0 in
      record {
        tree = whole (named (type_name types ty) (field (field_at types ty i).name ty i));
        height = 0;
        means = refl;
        fits = λ limit depth le. fits_whole types limit depth (named (type_name types ty) (field (field_at types ty i).name ty i))
            (type_found types lawful ty (and_parts _ _ there).0, field_found types lawful uses.Number ty i there);
        lexes = λ rest ts ends next. lex_field types ty i h ends next;
      }

  -- ---- calls that name references and types
  pub printed_get : (r : RefExpr) (ty : TypeId) (i : ℕ) → is_spelled_ref types r ≡ true → is_named_field types ty i ≡ true
      → Printed types (exprs.Get r ty i) (codes "get(" ++ (ref_text types r ++ (codes ", " ++ (field_text types ty i ++ codes ")"))))
  printed_get r ty i spelled h =
      let there = (and_parts _ _ h).0 in
      let from : PrintedRef types r (ref_text types r) = printed_ref r spelled in
      let tree : Syntax expr = whole (named (codes "get") (get from.tree (type_name types ty) ty (field_at types ty i).name i)) in
      record {
        tree = tree;
        height = 1;
        means = ap (λ (q : RefExpr). exprs.Get q ty i) from.means;
        fits = λ limit depth le. fits_whole types limit depth (named (codes "get") (get from.tree (type_name types ty) ty (field_at types ty i).name i))
            (omega arith, refl, from.fits, (type_found types lawful ty (and_parts _ _ there).0, field_found types lawful uses.Looked ty i there));
        lexes = λ rest ts ends next. subst (λ t. Lexes t (spell tree ts)) (sym (after_five (codes "get(") (ref_text types r) (codes ", ") (field_text types ty i) (codes ")") rest))
            (lex_call (codes "get") refl (from.lexes _ _ refl (lex_comma (lex_field types ty i h refl (lex_close next)))));
      }

  pub printed_alive : (r : RefExpr) → is_spelled_ref types r ≡ true → Printed types (exprs.Alive r) (codes "alive(" ++ (ref_text types r ++ codes ")"))
  printed_alive r spelled =
      let from : PrintedRef types r (ref_text types r) = printed_ref r spelled in
      let tree : Syntax expr = whole (named (codes "alive") (alive from.tree)) in
      record {
        tree = tree;
        height = 1;
        means = ap (λ (q : RefExpr). exprs.Alive q) from.means;
        fits = λ limit depth le. fits_whole types limit depth (named (codes "alive") (alive from.tree)) (omega arith, refl, from.fits);
        lexes = λ rest ts ends h. subst (λ t. Lexes t (spell tree ts)) (sym (after_three (codes "alive(") (ref_text types r) (codes ")") rest))
            (lex_call (codes "alive") refl (from.lexes _ _ refl (lex_close h)));
      }

  pub printed_has : (r : RefExpr) (ty : TypeId) → is_spelled_ref types r ≡ true → is_named_type types ty ≡ true
      → Printed types (exprs.Has r ty) (codes "has(" ++ (ref_text types r ++ (codes ", " ++ (type_name types ty ++ codes ")"))))
  printed_has r ty spelled h =
      let both = and_parts _ _ h in
      let from : PrintedRef types r (ref_text types r) = printed_ref r spelled in
      let tree : Syntax expr = whole (named (codes "has") (has from.tree (type_name types ty) ty)) in
      record {
        tree = tree;
        height = 1;
        means = ap (λ (q : RefExpr). exprs.Has q ty) from.means;
        fits = λ limit depth le. fits_whole types limit depth (named (codes "has") (has from.tree (type_name types ty) ty))
            (omega arith, refl, from.fits, (type_found types lawful ty both.0, both.0));
        lexes = λ rest ts ends h. subst (λ t. Lexes t (spell tree ts)) (sym (after_five (codes "has(") (ref_text types r) (codes ", ") (type_name types ty) (codes ")") rest))
            (lex_call (codes "has") refl (from.lexes _ _ refl (lex_comma (lex_name (type_name types ty) both.1 refl (lex_close h)))));
      }

  pub printed_same : (r q : RefExpr) → is_spelled_ref types r ≡ true → is_spelled_ref types q ≡ true
      → Printed types (exprs.Same r q) (codes "same(" ++ (ref_text types r ++ (codes ", " ++ (ref_text types q ++ codes ")"))))
  printed_same r q left right =
      let a : PrintedRef types r (ref_text types r) = printed_ref r left in
      let b : PrintedRef types q (ref_text types q) = printed_ref q right in
      let tree : Syntax expr = whole (named (codes "same") (same a.tree b.tree)) in
      let one : meaning_ref a.tree ≡ r = a.means in
      let other : meaning_ref b.tree ≡ q = b.means in
      record {
        tree = tree;
        height = 1;
        means = λ i. exprs.Same (one i) (other i);
        fits = λ limit depth le. fits_whole types limit depth (named (codes "same") (same a.tree b.tree)) (omega arith, refl, a.fits, b.fits);
        lexes = λ rest ts ends h. subst (λ t. Lexes t (spell tree ts)) (sym (after_five (codes "same(") (ref_text types r) (codes ", ") (ref_text types q) (codes ")") rest))
            (lex_call (codes "same") refl (a.lexes _ _ refl (lex_comma (b.lexes _ _ refl (lex_close h)))));
      }

  pub printed_on : (ty : TypeId) → is_named_type types ty ≡ true → Printed types (exprs.On ty) (codes "on(" ++ (type_name types ty ++ codes ")"))
  printed_on ty h =
      let both = and_parts _ _ h in
      let tree : Syntax expr = whole (named (codes "on") (on (type_name types ty) ty)) in
      record {
        tree = tree;
        height = 1;
        means = refl;
        fits = λ limit depth le. fits_whole types limit depth (named (codes "on") (on (type_name types ty) ty)) (omega arith, refl, (type_found types lawful ty both.0, both.0));
        lexes = λ rest ts ends h. subst (λ t. Lexes t (spell tree ts)) (sym (after_three (codes "on(") (type_name types ty) (codes ")") rest))
            (lex_call (codes "on") refl (lex_name (type_name types ty) both.1 refl (lex_close h)));
      }
