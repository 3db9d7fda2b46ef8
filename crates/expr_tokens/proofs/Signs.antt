-- Signs and the bytes that spell them.
use Rattle.std.proofs.Common.{ℕ, ◌≡◌, ◌≤◌, ◌<◌, List, [], ◌∷◌, Bool, true, false, cond, eqb, length, get_or, take, Option, Some, None, refl, sym, ap, ◌∙◌, subst, arith, lit<, lit≤, length-take}
use Rattle.std.proofs.lemmas.Bool.{eqb-true}
use Rattle.std.proofs.lemmas.List.{get_or-take}
use Rattle.std.specs.Char.{is_ascii_digit}
use Rattle.ent_types.specs.Names.{is_name_start}
use Rattle.expr_tokens.specs.declared.sign.Sign.{Sign}
use Rattle.expr_tokens.specs.declared.sign.Sign.TheVariants.{Open, Close, Comma, Dot, Colon, Plus, Minus, Times, Divide, Rest, Not, Assign, Equal, NotEqual, Less, LessEqual, Greater, GreaterEqual, And, Or}
use Rattle.expr_tokens.specs.Tokens.{spelling, pair_of, single_of}

pub lengths : (s : Sign) → (0 < length (spelling s)) × (length (spelling s) ≤ 2)
lengths Open = (lit< tt, lit≤ tt)
lengths Close = (lit< tt, lit≤ tt)
lengths Comma = (lit< tt, lit≤ tt)
lengths Dot = (lit< tt, lit≤ tt)
lengths Colon = (lit< tt, lit≤ tt)
lengths Plus = (lit< tt, lit≤ tt)
lengths Minus = (lit< tt, lit≤ tt)
lengths Times = (lit< tt, lit≤ tt)
lengths Divide = (lit< tt, lit≤ tt)
lengths Rest = (lit< tt, lit≤ tt)
lengths Not = (lit< tt, lit≤ tt)
lengths Assign = (lit< tt, lit≤ tt)
lengths Equal = (lit< tt, lit≤ tt)
lengths NotEqual = (lit< tt, lit≤ tt)
lengths Less = (lit< tt, lit≤ tt)
lengths LessEqual = (lit< tt, lit≤ tt)
lengths Greater = (lit< tt, lit≤ tt)
lengths GreaterEqual = (lit< tt, lit≤ tt)
lengths And = (lit< tt, lit≤ tt)
lengths Or = (lit< tt, lit≤ tt)

-- a sign begins with no byte of a name or a number, and with no space
pub first_byte : (s : Sign) → (is_name_start (get_or (spelling s) 0 0) ≡ false) × (is_ascii_digit (get_or (spelling s) 0 0) ≡ false) × (eqb (get_or (spelling s) 0 0) 32 ≡ false)
first_byte Open = (refl, refl, refl)
first_byte Close = (refl, refl, refl)
first_byte Comma = (refl, refl, refl)
first_byte Dot = (refl, refl, refl)
first_byte Colon = (refl, refl, refl)
first_byte Plus = (refl, refl, refl)
first_byte Minus = (refl, refl, refl)
first_byte Times = (refl, refl, refl)
first_byte Divide = (refl, refl, refl)
first_byte Rest = (refl, refl, refl)
first_byte Not = (refl, refl, refl)
first_byte Assign = (refl, refl, refl)
first_byte Equal = (refl, refl, refl)
first_byte NotEqual = (refl, refl, refl)
first_byte Less = (refl, refl, refl)
first_byte LessEqual = (refl, refl, refl)
first_byte Greater = (refl, refl, refl)
first_byte GreaterEqual = (refl, refl, refl)
first_byte And = (refl, refl, refl)
first_byte Or = (refl, refl, refl)

-- what a sign at the front says of the first byte
pub front_byte : (s : Sign) (m : ℕ) (bytes : List ℕ) → take m bytes ≡ spelling s → get_or bytes 0 0 ≡ get_or (spelling s) 0 0
front_byte s m bytes e =
    let len = ap length e in
    let some : 0 < m = omega (arith, length-take m bytes, (lengths s).0) in
    sym (get_or-take m bytes 0 0 some) ∙ ap (λ xs. get_or xs 0 0) e

abbrev IsSpelled : ℕ → ℕ → Option Sign → Type 0
IsSpelled a b None = Unit {0}
IsSpelled a b (Some s) = spelling s ≡ a ∷ b ∷ []

abbrev IsSpelledAlone : ℕ → Option Sign → Type 0
IsSpelledAlone a None = Unit {0}
IsSpelledAlone a (Some s) = spelling s ≡ a ∷ []

choose : (P : Option Sign → Type 0) (x k : ℕ) (hit miss : Option Sign) → (x ≡ k → P hit) → P miss → P (cond (eqb x k) hit miss)
choose P x k hit miss there rest = by (eqb x k) (eqb-true x k) where
  by : (t : Bool) → (t ≡ true → x ≡ k) → P (cond t hit miss)
  by true says = there (says refl)
  by false says = rest

pair_spelled : (a b : ℕ) → IsSpelled a b (pair_of a b)
pair_spelled a b =
    let P = IsSpelled a b in
    choose P b 61 _ _
    (λ eb. choose P a 61 _ _ (λ ea. rw (ea, eb) refl) (choose P a 33 _ _ (λ ea. rw (ea, eb) refl) (choose P a 60 _ _ (λ ea. rw (ea, eb) refl) (choose P a 62 _ _ (λ ea. rw (ea, eb) refl) tt))))
    (choose P a b _ _ (λ eab. choose P a 38 _ _ (λ ea. rw (← eab, ea) refl) (choose P a 124 _ _ (λ ea. rw (← eab, ea) refl) tt)) tt)

single_spelled : (a : ℕ) → IsSpelledAlone a (single_of a)
single_spelled a =
    let P = IsSpelledAlone a in
    choose P a 40 _ _ (λ e. rw e refl) (choose P a 41 _ _ (λ e. rw e refl) (choose P a 44 _ _ (λ e. rw e refl) (choose P a 46 _ _ (λ e. rw e refl)
    (choose P a 58 _ _ (λ e. rw e refl) (choose P a 43 _ _ (λ e. rw e refl) (choose P a 45 _ _ (λ e. rw e refl) (choose P a 42 _ _ (λ e. rw e refl)
    (choose P a 47 _ _ (λ e. rw e refl) (choose P a 37 _ _ (λ e. rw e refl) (choose P a 33 _ _ (λ e. rw e refl) (choose P a 61 _ _ (λ e. rw e refl)
    (choose P a 60 _ _ (λ e. rw e refl) (choose P a 62 _ _ (λ e. rw e refl) tt)))))))))))))

pub pair_sound : (a b : ℕ) (s : Sign) → pair_of a b ≡ Some s → spelling s ≡ a ∷ b ∷ []
pair_sound a b s e = subst (IsSpelled a b) e (pair_spelled a b)

pub single_sound : (a : ℕ) (s : Sign) → single_of a ≡ Some s → spelling s ≡ a ∷ []
single_sound a s e = subst (IsSpelledAlone a) e (single_spelled a)

-- what a spelling reads as
abbrev pub read : List ℕ → Option Sign
read [] = None
read (a ∷ []) = single_of a
read (a ∷ b ∷ rest) = pair_of a b

pub read_back : (s : Sign) → read (spelling s) ≡ Some s
read_back Open = refl
read_back Close = refl
read_back Comma = refl
read_back Dot = refl
read_back Colon = refl
read_back Plus = refl
read_back Minus = refl
read_back Times = refl
read_back Divide = refl
read_back Rest = refl
read_back Not = refl
read_back Assign = refl
read_back Equal = refl
read_back NotEqual = refl
read_back Less = refl
read_back LessEqual = refl
read_back Greater = refl
read_back GreaterEqual = refl
read_back And = refl
read_back Or = refl

pub pair_complete : (a b : ℕ) (s : Sign) → a ∷ b ∷ [] ≡ spelling s → pair_of a b ≡ Some s
pair_complete a b s e = ap read e ∙ read_back s

pub single_complete : (a : ℕ) (s : Sign) → a ∷ [] ≡ spelling s → single_of a ≡ Some s
single_complete a s e = ap read e ∙ read_back s
