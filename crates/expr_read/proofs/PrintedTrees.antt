-- Trees of several levels, and what is known of a printed text: it has the tokens of a tree that fits.
use Rattle.std.proofs.Common.{ℕ, zero, suc, ◌≡◌, ◌+◌, ◌≤◌, List, [], ◌∷◌, ◌++◌, true, false, Some, codes, refl, sym, ap, ◌∙◌, subst, append_assoc}
use Rattle.std.proofs.lemmas.Bool.{and_parts}
use Rattle.ent_types.specs.declared.entity.TypeId.{TypeId}
use Rattle.ent_types.specs.declared.type_info.TypeInfo.{TypeInfo}
use Rattle.ent_types.specs.Names.{is_name}
use Rattle.expr_tokens.specs.declared.sign.Sign.{Sign}
use Rattle.expr_tokens.specs.declared.sign.Sign.TheVariants as signs
use Rattle.expr_tokens.specs.Tokens.{Token, word, sign, spelling}
use Rattle.expr_trees.specs.declared.tree.Expr.{Expr}
use Rattle.expr_trees.specs.declared.tree.Expr.TheVariants as exprs
use Rattle.expr_trees.specs.declared.tree.RefExpr.{RefExpr}
use Rattle.expr_trees.specs.declared.tree.BinaryOp.{BinaryOp}
use Rattle.expr_trees.specs.declared.tree.BinaryOp.TheVariants as binary
use Rattle.expr_trees.specs.declared.tree.Variable.{Variable}
use Rattle.expr_trees.specs.declared.tree.Variable.TheVariants as variables
use Rattle.expr_grammar.specs.Fitting.{Fits, FitsExpr, FitsRef, operator_of, associates, MayGoOn}
use Rattle.expr_grammar.specs.Grammar.{Ref, operand, expr, Syntax, lone, chain, stop, more, spell, spell_ref}
use Rattle.expr_grammar.specs.Meaning.{meaning, meaning_ref}
use Rattle.expr_read.specs.Printing.{anywhere}
use Rattle.expr_read.specs.PrintedTexts.{between, field_at, field_text, is_named_field, opening, type_name, variable_word}
use Rattle.expr_read.proofs.PrintedTokens.{Lexes, Ends, lex_name, lex_single, lex_pair, lex_open, lex_dot}

-- ---- pieces put together
pub after_three : (o a c rest : List ℕ) → (o ++ (a ++ c)) ++ rest ≡ o ++ (a ++ (c ++ rest))
after_three o a c rest = simp append_assoc

pub after_five : (o a m b c rest : List ℕ) → (o ++ (a ++ (m ++ (b ++ c)))) ++ rest ≡ o ++ (a ++ (m ++ (b ++ (c ++ rest))))
after_five o a m b c rest = simp append_assoc

pub after_seven : (o c m a n b d rest : List ℕ) → (o ++ (c ++ (m ++ (a ++ (n ++ (b ++ d)))))) ++ rest ≡ o ++ (c ++ (m ++ (a ++ (n ++ (b ++ (d ++ rest))))))
after_seven o c m a n b d rest = simp append_assoc

-- ---- trees of several levels
pub lift : ℕ → Syntax expr → Syntax expr
lift zero e = e
lift (suc n) e = chain (lift n e) stop

pub up : ℕ → ℕ → ℕ
up zero k = k
up (suc n) k = suc (up n k)

abbrev pub whole : Syntax operand → Syntax expr
whole o = chain (chain (chain (chain (chain (lone o) stop) stop) stop) stop) stop

pub joined : ℕ → ℕ → Sign → BinaryOp → Syntax operand → Syntax operand → Syntax expr
joined n m s op a b = lift m (chain (lift n (lone a)) (more s op (lift n (lone b)) stop))

spell_lift : (n : ℕ) (e : Syntax expr) (ts : List Token) → spell (lift n e) ts ≡ spell e ts
unfolding lift
spell_lift zero e ts = refl
spell_lift (suc n) e ts = spell_lift n e ts

meaning_lift : (n : ℕ) (e : Syntax expr) → meaning (lift n e) ≡ meaning e
unfolding lift
meaning_lift zero e = refl
meaning_lift (suc n) e = meaning_lift n e

pub spell_joined : (n m : ℕ) (s : Sign) (op : BinaryOp) (a b : Syntax operand) (ts : List Token)
    → spell (joined n m s op a b) ts ≡ spell a (sign s ∷ spell b ts)
unfolding joined
spell_joined n m s op a b ts =
    spell_lift m (chain (lift n (lone a)) (more s op (lift n (lone b)) stop)) ts
    ∙ (spell_lift n (lone a) (sign s ∷ spell (lift n (lone b)) ts) ∙ ap (λ r. spell a (sign s ∷ r)) (spell_lift n (lone b) ts))

pub meaning_joined : (n m : ℕ) (s : Sign) (op : BinaryOp) (a b : Syntax operand) (x y : Expr) → meaning a ≡ x → meaning b ≡ y
    → meaning (joined n m s op a b) ≡ exprs.Binary op x y
unfolding joined
meaning_joined n m s op a b x y p q =
    let left : meaning (lift n (lone a)) ≡ x = meaning_lift n (lone a) ∙ p in
    let right : meaning (lift n (lone b)) ≡ y = meaning_lift n (lone b) ∙ q in
    meaning_lift m (chain (lift n (lone a)) (more s op (lift n (lone b)) stop)) ∙ (λ i. exprs.Binary op (left i) (right i))

module _ (types : List TypeInfo) (limit depth : ℕ) where
  fits_lift : (n level : ℕ) (e : Syntax expr) → Fits (anywhere types) limit level depth [] e → Fits (anywhere types) limit (up n level) depth [] (lift n e)
  unfolding lift up
  fits_lift zero level e h = h
  fits_lift (suc n) level e h = (fits_lift n level e h, tt)

  pub fits_joined : (n m : ℕ) (s : Sign) (op : BinaryOp) (a b : Syntax operand) → operator_of s ≡ Some (op, up n 0) → MayGoOn (associates (up n 0)) stop
      → Fits (anywhere types) limit 0 depth [] a → Fits (anywhere types) limit 0 depth [] b
      → Fits (anywhere types) limit (up m (suc (up n 0))) depth [] (joined n m s op a b)
  unfolding joined
  fits_joined n m s op a b is go fa fb =
      fits_lift m (suc (up n 0)) (chain (lift n (lone a)) (more s op (lift n (lone b)) stop))
      (fits_lift n 0 (lone a) fa, (is, fits_lift n 0 (lone b) fb, go, tt))

  pub fits_whole : (o : Syntax operand) → Fits (anywhere types) limit 0 depth [] o → FitsExpr (anywhere types) limit depth (whole o)
  fits_whole o h = (((((h, tt), tt), tt), tt), tt)

-- ---- an operator between two groups
pub record Infix (op : BinaryOp) : Type 0 where
  pub low : ℕ
  pub high : ℕ
  pub s : Sign
  pub operator : operator_of s ≡ Some (op, up low 0)
  pub ends : MayGoOn (associates (up low 0)) stop
  pub five : up high (suc (up low 0)) ≡ 5
  pub opens : opening op ≡ codes "("
  pub stands : between op ≡ codes ") " ++ (spelling s ++ codes " (")
  pub lexes : (text : List ℕ) (ts : List Token) → Lexes (32 ∷ text) ts → Lexes (spelling s ++ (32 ∷ text)) (sign s ∷ ts)

-- ---- what is known of a text
pub record Printed (types : List TypeInfo) (e : Expr) (text : List ℕ) : Type 0 where
  pub tree : Syntax expr
  pub height : ℕ
  pub means : meaning tree ≡ e
  pub fits : (limit depth : ℕ) → depth + height ≤ limit → FitsExpr (anywhere types) limit depth tree
  pub lexes : (rest : List ℕ) (ts : List Token) → Ends rest → Lexes rest ts → Lexes (text ++ rest) (spell tree ts)

pub record PrintedRef (types : List TypeInfo) (r : RefExpr) (text : List ℕ) : Type 0 where
  pub tree : Ref
  pub means : meaning_ref tree ≡ r
  pub fits : FitsRef (anywhere types) false tree
  pub lexes : (rest : List ℕ) (ts : List Token) → Ends rest → Lexes rest ts → Lexes (text ++ rest) (spell_ref tree ts)

-- a name and the parenthesis after it
pub lex_call : (name : List ℕ) {text : List ℕ} {ts : List Token} → is_name name ≡ true → Lexes text ts → Lexes (name ++ (40 ∷ text)) (word name ∷ sign signs.Open ∷ ts)
lex_call name is h = lex_name name is refl (lex_open h)

pub lex_field : (types : List TypeInfo) (ty : TypeId) (i : ℕ) {rest : List ℕ} {ts : List Token} → is_named_field types ty i ≡ true → Ends rest → Lexes rest ts
    → Lexes (field_text types ty i ++ rest) (word (type_name types ty) ∷ sign signs.Dot ∷ word (field_at types ty i).name ∷ ts)
lex_field types ty i {rest = rest} {ts = ts} passed ends h =
    let names = and_parts _ _ (and_parts _ _ passed).1 in
    subst (λ t. Lexes t (word (type_name types ty) ∷ sign signs.Dot ∷ word (field_at types ty i).name ∷ ts))
    (sym (after_three (type_name types ty) (codes ".") (field_at types ty i).name rest))
    (lex_name (type_name types ty) names.0 refl (lex_dot (lex_name (field_at types ty i).name names.1 ends h)))

pub variable_facts : (v : Variable) → (is_name (variable_word v) ≡ true) × ((anywhere []).variable (variable_word v) ≡ Some v)
variable_facts variables.Frame = (refl, refl)
variable_facts variables.Chunk = (refl, refl)
variable_facts variables.Row = (refl, refl)
variable_facts variables.Index = (refl, refl)
variable_facts variables.Version = (refl, refl)
variable_facts variables.N = (refl, refl)

pub as_Or : Infix binary.Or
unfolding up
as_Or = record { low = 4; high = 0; s = signs.Or; operator = refl; ends = tt; five = refl; opens = refl; stands = refl; lexes = λ text ts h. lex_pair signs.Or 124 124 (32 ∷ text) ts refl h }

pub as_And : Infix binary.And
unfolding up
as_And = record { low = 3; high = 1; s = signs.And; operator = refl; ends = tt; five = refl; opens = refl; stands = refl; lexes = λ text ts h. lex_pair signs.And 38 38 (32 ∷ text) ts refl h }

pub as_Equal : Infix binary.Equal
unfolding up
as_Equal = record { low = 2; high = 2; s = signs.Equal; operator = refl; ends = tt; five = refl; opens = refl; stands = refl; lexes = λ text ts h. lex_pair signs.Equal 61 61 (32 ∷ text) ts refl h }

pub as_NotEqual : Infix binary.NotEqual
unfolding up
as_NotEqual = record { low = 2; high = 2; s = signs.NotEqual; operator = refl; ends = tt; five = refl; opens = refl; stands = refl; lexes = λ text ts h. lex_pair signs.NotEqual 33 61 (32 ∷ text) ts refl h }

pub as_Less : Infix binary.Less
unfolding up
as_Less = record { low = 2; high = 2; s = signs.Less; operator = refl; ends = tt; five = refl; opens = refl; stands = refl; lexes = λ text ts h. lex_single signs.Less 60 (32 ∷ text) ts refl refl h }

pub as_LessEqual : Infix binary.LessEqual
unfolding up
as_LessEqual = record { low = 2; high = 2; s = signs.LessEqual; operator = refl; ends = tt; five = refl; opens = refl; stands = refl; lexes = λ text ts h. lex_pair signs.LessEqual 60 61 (32 ∷ text) ts refl h }

pub as_Greater : Infix binary.Greater
unfolding up
as_Greater = record { low = 2; high = 2; s = signs.Greater; operator = refl; ends = tt; five = refl; opens = refl; stands = refl; lexes = λ text ts h. lex_single signs.Greater 62 (32 ∷ text) ts refl refl h }

pub as_GreaterEqual : Infix binary.GreaterEqual
unfolding up
as_GreaterEqual = record { low = 2; high = 2; s = signs.GreaterEqual; operator = refl; ends = tt; five = refl; opens = refl; stands = refl; lexes = λ text ts h. lex_pair signs.GreaterEqual 62 61 (32 ∷ text) ts refl h }

pub as_Plus : Infix binary.Plus
unfolding up
as_Plus = record { low = 1; high = 3; s = signs.Plus; operator = refl; ends = tt; five = refl; opens = refl; stands = refl; lexes = λ text ts h. lex_single signs.Plus 43 (32 ∷ text) ts refl refl h }

pub as_Minus : Infix binary.Minus
unfolding up
as_Minus = record { low = 1; high = 3; s = signs.Minus; operator = refl; ends = tt; five = refl; opens = refl; stands = refl; lexes = λ text ts h. lex_single signs.Minus 45 (32 ∷ text) ts refl refl h }

pub as_Times : Infix binary.Times
unfolding up
as_Times = record { low = 0; high = 4; s = signs.Times; operator = refl; ends = tt; five = refl; opens = refl; stands = refl; lexes = λ text ts h. lex_single signs.Times 42 (32 ∷ text) ts refl refl h }

pub as_Divide : Infix binary.Divide
unfolding up
as_Divide = record { low = 0; high = 4; s = signs.Divide; operator = refl; ends = tt; five = refl; opens = refl; stands = refl; lexes = λ text ts h. lex_single signs.Divide 47 (32 ∷ text) ts refl refl h }

pub as_Rest : Infix binary.Rest
unfolding up
as_Rest = record { low = 0; high = 4; s = signs.Rest; operator = refl; ends = tt; five = refl; opens = refl; stands = refl; lexes = λ text ts h. lex_single signs.Rest 37 (32 ∷ text) ts refl refl h }
