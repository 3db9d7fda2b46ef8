-- A printed expression has the tokens of a tree that means it. The tree fits where every name is allowed, whatever its
-- operands are.
use Rattle.std.proofs.Common.{ℕ, suc, ◌≡◌, ◌+◌, List, [], ◌∷◌, ◌++◌, Bool, true, ◌&&◌, Some, codes, refl, sym, ap, ◌∙◌, subst, arith, append_assoc}
use Rattle.std.proofs.lemmas.Bool.{and_parts}
use Rattle.std.proofs.lemmas.List.{append-nil}
use Rattle.ent_types.specs.declared.type_info.TypeInfo.{TypeInfo}
use Rattle.ent_types.specs.Names.{is_name}
use Rattle.ent_types.specs.Registries.{IsLawfulRegistry}
use Rattle.expr_tokens.specs.declared.sign.Sign.{Sign}
use Rattle.expr_tokens.specs.declared.sign.Sign.TheVariants as signs
use Rattle.expr_tokens.specs.Tokens.{Token, sign, spelling, AreTokens}
use Rattle.expr_trees.specs.declared.tree.Expr.{Expr}
use Rattle.expr_trees.specs.declared.tree.Expr.TheOpen.{Expr-F}
use Rattle.expr_trees.specs.declared.tree.Expr.TheFolds.{fold-roll-Expr, ind-Expr, map-Expr}
use Rattle.expr_trees.specs.declared.tree.Expr.TheViews.{roll-Expr}
use Rattle.expr_trees.specs.declared.tree.Expr.TheVariants as exprs
use Rattle.expr_trees.specs.declared.tree.UnaryOp.{UnaryOp}
use Rattle.expr_trees.specs.declared.tree.UnaryOp.TheVariants as unary
use Rattle.expr_trees.specs.declared.tree.BinaryOp.{BinaryOp}
use Rattle.expr_trees.specs.declared.tree.BinaryOp.TheVariants as binary
use Rattle.expr_grammar.specs.Fitting.{Fits}
use Rattle.expr_grammar.specs.Grammar.{group, signed, named, two, pick, spell}
use Rattle.expr_grammar.specs.Meaning.{meaning}
use Rattle.expr_read.specs.Printing.{anywhere, Prints}
use Rattle.expr_read.specs.PrintedTexts.{between, expr_text, is_int, is_named_field, is_named_type, is_spelled, is_spelled_ref, leaves_step, opening, sign_opening, text_step}
use Rattle.expr_read.specs.ScopeOf.{system_call}
use Rattle.expr_grammar.specs.declared.words.Call.TheVariants as calls
use Rattle.expr_read.proofs.PrintedTokens.{Lexes, Ends, lex_end, lex_space, lex_single, lex_open, lex_close, lex_comma}
use Rattle.expr_read.proofs.PrintedTrees.{after_five, after_seven, after_three, as_And, as_Divide, as_Equal, as_Greater, as_GreaterEqual, as_Less, as_LessEqual, as_Minus, as_NotEqual, as_Or, as_Plus, as_Rest, as_Times, fits_joined, fits_whole, joined, lex_call, meaning_joined, spell_joined, whole, Infix, Printed}
use Rattle.expr_read.proofs.PrintedLeaves.{printed_alive, printed_get, printed_has, printed_number, printed_on, printed_own, printed_same, printed_variable}

module _ (types : List TypeInfo) (lawful : IsLawfulRegistry types) where
  -- ---- expressions with operands
  module _ (x : Expr) (a : List ℕ) (left : Printed types x a) where
    lex_signed : (op : UnaryOp) (s : Sign) (before : ℕ) (rest : List ℕ) (ts : List Token) → sign_opening op ≡ before ∷ 40 ∷ []
        → ((text : List ℕ) (us : List Token) → Lexes (40 ∷ text) us → Lexes (before ∷ 40 ∷ text) (sign s ∷ us))
        → Lexes rest ts → Lexes ((sign_opening op ++ (a ++ codes ")")) ++ rest) (spell (whole (signed s op (group left.tree))) ts)
    lex_signed op s before rest ts opens front h =
        subst (λ t. Lexes t (spell (whole (signed s op (group left.tree))) ts))
        (sym (ap (λ o. (o ++ (a ++ codes ")")) ++ rest) opens ∙ after_three (before ∷ 40 ∷ []) a (codes ")") rest))
        (front _ _ (lex_open (left.lexes _ _ refl (lex_close h))))

    printed_unary : (op : UnaryOp) → Printed types (exprs.Unary op x) (sign_opening op ++ (a ++ codes ")"))
    printed_unary unary.Minus = record {
      tree = whole (signed signs.Minus unary.Minus (group left.tree));
      height = 2 + left.height;
      means = ap (λ (e : Expr). exprs.Unary unary.Minus e) left.means;
      fits = λ limit depth le. fits_whole types limit depth (signed signs.Minus unary.Minus (group left.tree))
          (omega arith, refl, (omega arith, left.fits limit (suc (suc depth)) (omega arith)));
      lexes = λ rest ts ends h. lex_signed unary.Minus signs.Minus 45 rest ts refl (λ text us h'. lex_single signs.Minus 45 (40 ∷ text) us refl refl h') h;
    }
    printed_unary unary.Not = record {
      tree = whole (signed signs.Not unary.Not (group left.tree));
      height = 2 + left.height;
      means = ap (λ (e : Expr). exprs.Unary unary.Not e) left.means;
      fits = λ limit depth le. fits_whole types limit depth (signed signs.Not unary.Not (group left.tree))
          (omega arith, refl, (omega arith, left.fits limit (suc (suc depth)) (omega arith)));
      lexes = λ rest ts ends h. lex_signed unary.Not signs.Not 33 rest ts refl (λ text us h'. lex_single signs.Not 33 (40 ∷ text) us refl refl h') h;
    }

    module _ (y : Expr) (b : List ℕ) (right : Printed types y b) where
      lefts : meaning left.tree ≡ x
      lefts = left.means

      rights : meaning right.tree ≡ y
      rights = right.means

      printed_two : (op : BinaryOp) (name : List ℕ) → is_name name ≡ true → system_call name ≡ Some (calls.Two op)
          → Printed types (exprs.Binary op x y) ((name ++ codes "(") ++ (a ++ (codes ", " ++ (b ++ codes ")"))))
      printed_two op name is_one call = record {
        tree = whole (named name (two op left.tree right.tree));
        height = 1 + (left.height + right.height);
        means = λ i. exprs.Binary op (lefts i) (rights i);
        fits = λ limit depth le. fits_whole types limit depth (named name (two op left.tree right.tree))
            (omega arith, call, left.fits limit (suc depth) (omega arith), right.fits limit (suc depth) (omega arith));
        lexes = λ rest ts ends h. subst (λ t. Lexes t (spell (whole (named name (two op left.tree right.tree))) ts))
            (sym (after_five (name ++ codes "(") a (codes ", ") b (codes ")") rest ∙ append_assoc name (codes "(") (a ++ (codes ", " ++ (b ++ (codes ")" ++ rest))))))
            (lex_call name is_one (left.lexes _ _ refl (lex_comma (right.lexes _ _ refl (lex_close h)))));
      }

      printed_infix : (op : BinaryOp) → Infix op → Printed types (exprs.Binary op x y) (opening op ++ (a ++ (between op ++ (b ++ codes ")"))))
      printed_infix op f = record {
        tree = joined f.low f.high f.s op (group left.tree) (group right.tree);
        height = 1 + (left.height + right.height);
        means = meaning_joined f.low f.high f.s op (group left.tree) (group right.tree) x y left.means right.means;
        fits = λ limit depth le. subst (λ k. Fits (anywhere types) limit k depth [] (joined f.low f.high f.s op (group left.tree) (group right.tree))) f.five
            (fits_joined types limit depth f.low f.high f.s op (group left.tree) (group right.tree) f.operator f.ends
            (omega arith, left.fits limit (suc depth) (omega arith)) (omega arith, right.fits limit (suc depth) (omega arith)));
        lexes = lexes_of;
      } where
        in_order : (rest : List ℕ) → (opening op ++ (a ++ (between op ++ (b ++ codes ")")))) ++ rest
            ≡ 40 ∷ (a ++ (41 ∷ 32 ∷ (spelling f.s ++ (32 ∷ 40 ∷ (b ++ (41 ∷ rest))))))
        in_order rest =
            after_five (opening op) a (between op) b (codes ")") rest
            ∙ (ap (λ o. o ++ (a ++ (between op ++ (b ++ (41 ∷ rest))))) f.opens
            ∙ (ap (λ m. 40 ∷ (a ++ (m ++ (b ++ (41 ∷ rest))))) f.stands
            ∙ ap (λ m. 40 ∷ (a ++ (41 ∷ 32 ∷ m))) (append_assoc (spelling f.s) (codes " (") (b ++ (41 ∷ rest)))))

        lexes_of : (rest : List ℕ) (ts : List Token) → Ends rest → Lexes rest ts
            → Lexes ((opening op ++ (a ++ (between op ++ (b ++ codes ")")))) ++ rest) (spell (joined f.low f.high f.s op (group left.tree) (group right.tree)) ts)
        lexes_of rest ts ends h =
            subst (λ us. Lexes ((opening op ++ (a ++ (between op ++ (b ++ codes ")")))) ++ rest) us)
            (sym (spell_joined f.low f.high f.s op (group left.tree) (group right.tree) ts))
            (subst (λ t. Lexes t (spell (group left.tree) (sign f.s ∷ spell (group right.tree) ts))) (sym (in_order rest))
            (lex_open (left.lexes _ _ refl (lex_close (lex_space (f.lexes _ _ (lex_space (lex_open (right.lexes _ _ refl (lex_close h))))))))))

      printed_binary : (op : BinaryOp) → Printed types (exprs.Binary op x y) (opening op ++ (a ++ (between op ++ (b ++ codes ")"))))
      printed_binary binary.Or = printed_infix binary.Or as_Or
      printed_binary binary.And = printed_infix binary.And as_And
      printed_binary binary.Equal = printed_infix binary.Equal as_Equal
      printed_binary binary.NotEqual = printed_infix binary.NotEqual as_NotEqual
      printed_binary binary.Less = printed_infix binary.Less as_Less
      printed_binary binary.LessEqual = printed_infix binary.LessEqual as_LessEqual
      printed_binary binary.Greater = printed_infix binary.Greater as_Greater
      printed_binary binary.GreaterEqual = printed_infix binary.GreaterEqual as_GreaterEqual
      printed_binary binary.Plus = printed_infix binary.Plus as_Plus
      printed_binary binary.Minus = printed_infix binary.Minus as_Minus
      printed_binary binary.Times = printed_infix binary.Times as_Times
      printed_binary binary.Divide = printed_infix binary.Divide as_Divide
      printed_binary binary.Rest = printed_infix binary.Rest as_Rest
      printed_binary binary.Min = printed_two binary.Min (codes "min") refl refl
      printed_binary binary.Max = printed_two binary.Max (codes "max") refl refl

      module _ (z : Expr) (d : List ℕ) (third : Printed types z d) where
        thirds : meaning third.tree ≡ z
        thirds = third.means

        printed_pick : Printed types (exprs.Pick x y z) (codes "pick(" ++ (a ++ (codes ", " ++ (b ++ (codes ", " ++ (d ++ codes ")"))))))
        printed_pick = record {
          tree = whole (named (codes "pick") (pick left.tree right.tree third.tree));
          height = 1 + (left.height + (right.height + third.height));
          means = λ i. exprs.Pick (lefts i) (rights i) (thirds i);
          fits = λ limit depth le. fits_whole types limit depth (named (codes "pick") (pick left.tree right.tree third.tree))
              (omega arith, refl, left.fits limit (suc depth) (omega arith), right.fits limit (suc depth) (omega arith), third.fits limit (suc depth) (omega arith));
          lexes = λ rest ts ends h. subst (λ t. Lexes t (spell (whole (named (codes "pick") (pick left.tree right.tree third.tree))) ts))
              (sym (after_seven (codes "pick(") a (codes ", ") b (codes ", ") d (codes ")") rest))
              (lex_call (codes "pick") refl (left.lexes _ _ refl (lex_comma (right.lexes _ _ refl (lex_comma (third.lexes _ _ refl (lex_close h)))))));
        }

  -- ---- every expression
  abbrev IsPrinted : Expr → Type 0
  IsPrinted e = is_spelled types e ≡ true → Printed types e (expr_text types e)

  rolled : (x : Expr-F Expr) (e : Expr) → roll-Expr x ≡ e → Printed types e (text_step types (map-Expr Expr (List ℕ) (expr_text types) x))
      → Printed types (roll-Expr x) (expr_text types (roll-Expr x))
  rolled x e is p =
      subst (λ d. Printed types d (expr_text types (roll-Expr x))) (sym is)
      (subst (λ t. Printed types e t) (sym (fold-roll-Expr (List ℕ) (text_step types) x)) p)

  passes : (x : Expr-F Expr) → is_spelled types (roll-Expr x) ≡ true
      → leaves_step is_int (is_named_field types) (is_spelled_ref types) (is_named_type types) (map-Expr Expr Bool (is_spelled types) x) ≡ true
  passes x h = sym (fold-roll-Expr Bool (leaves_step is_int (is_named_field types) (is_spelled_ref types) (is_named_type types)) x) ∙ h

  layer : (y : Expr-F ((e : Expr) × IsPrinted e)) → IsPrinted (roll-Expr (map-Expr ((e : Expr) × IsPrinted e) Expr (λ e. e.0) y))
  layer (Expr-F.Number z) h = rolled (Expr-F.Number z) (exprs.Number z) (exprs.rolls-Number z) (printed_number types lawful z (passes (Expr-F.Number z) h))
  layer (Expr-F.Variable v) h = rolled (Expr-F.Variable v) (exprs.Variable v) (exprs.rolls-Variable v) (printed_variable types lawful v)
  layer (Expr-F.Own ty i) h = rolled (Expr-F.Own ty i) (exprs.Own ty i) (exprs.rolls-Own ty i) (printed_own types lawful ty i (passes (Expr-F.Own ty i) h))
  layer (Expr-F.Unary op a) h =
      let (x, known) = a in
      rolled (Expr-F.Unary op x) (exprs.Unary op x) (exprs.rolls-Unary op x) (printed_unary x (expr_text types x) (known (passes (Expr-F.Unary op x) h)) op)
  layer (Expr-F.Binary op a b) h =
      let both = and_parts (is_spelled types a.0) (is_spelled types b.0) (passes (Expr-F.Binary op a.0 b.0) h) in
      rolled (Expr-F.Binary op a.0 b.0) (exprs.Binary op a.0 b.0) (exprs.rolls-Binary op a.0 b.0)
      (printed_binary a.0 (expr_text types a.0) (a.1 both.0) b.0 (expr_text types b.0) (b.1 both.1) op)
  layer (Expr-F.Pick a b c) h =
      let first = and_parts (is_spelled types a.0) (is_spelled types b.0 && is_spelled types c.0) (passes (Expr-F.Pick a.0 b.0 c.0) h) in
      let others = and_parts (is_spelled types b.0) (is_spelled types c.0) first.1 in
      rolled (Expr-F.Pick a.0 b.0 c.0) (exprs.Pick a.0 b.0 c.0) (exprs.rolls-Pick a.0 b.0 c.0)
      (printed_pick a.0 (expr_text types a.0) (a.1 first.0) b.0 (expr_text types b.0) (b.1 others.0) c.0 (expr_text types c.0) (c.1 others.1))
  layer (Expr-F.Get r ty i) h =
      let both = and_parts (is_spelled_ref types r) (is_named_field types ty i) (passes (Expr-F.Get r ty i) h) in
      rolled (Expr-F.Get r ty i) (exprs.Get r ty i) (exprs.rolls-Get r ty i) (printed_get types lawful r ty i both.0 both.1)
  layer (Expr-F.Alive r) h = rolled (Expr-F.Alive r) (exprs.Alive r) (exprs.rolls-Alive r) (printed_alive types lawful r (passes (Expr-F.Alive r) h))
  layer (Expr-F.Has r ty) h =
      let both = and_parts (is_spelled_ref types r) (is_named_type types ty) (passes (Expr-F.Has r ty) h) in
      rolled (Expr-F.Has r ty) (exprs.Has r ty) (exprs.rolls-Has r ty) (printed_has types lawful r ty both.0 both.1)
  layer (Expr-F.Same r q) h =
      let both = and_parts (is_spelled_ref types r) (is_spelled_ref types q) (passes (Expr-F.Same r q) h) in
      rolled (Expr-F.Same r q) (exprs.Same r q) (exprs.rolls-Same r q) (printed_same types lawful r q both.0 both.1)
  layer (Expr-F.On ty) h = rolled (Expr-F.On ty) (exprs.On ty) (exprs.rolls-On ty) (printed_on types lawful ty (passes (Expr-F.On ty) h))

  printed : (e : Expr) → IsPrinted e
  printed = ind-Expr IsPrinted (λ x y is. subst (λ (z : Expr-F Expr). IsPrinted (roll-Expr z)) is (layer y))

  -- the tokens of the text that is written derive the expression
  pub prints : (e : Expr) (text : List ℕ) → is_spelled types e ≡ true → text ≡ expr_text types e → Prints types e text
  prints e text spelled is =
      let p : Printed types e (expr_text types e) = printed e spelled in
      let l = (p.lexes [] [] refl lex_end).placed 0 in
      record {
        tokens = l.0;
        tokens_are = subst (λ t. AreTokens 0 t l.0) (append-nil (expr_text types e) ∙ sym is) l.1;
        tree = p.tree;
        spelled = sym l.2;
        limit = p.height;
        fits = p.fits p.height 0 (omega arith);
        means = p.means;
      }
