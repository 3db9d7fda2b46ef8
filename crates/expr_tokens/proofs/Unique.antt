-- A text has one list of tokens.
use Rattle.std.proofs.Common.{ℕ, ◌≡◌, ◌≤◌, ◌<◌, ◌+◌, List, [], ◌∷◌, ◌⊎◌, inl, inr, true, length, get_or, take, drop, Some, refl, sym, ap, ◌∙◌, subst, arith, ⊎_elim, eqb, length-take, length-drop, add-zero}
use Rattle.std.proofs.lemmas.Bool.{false≢true, eq-eqb}
use Rattle.std.proofs.lemmas.List.{get_or-take, get_or-drop, length-take-le}
use Rattle.std.proofs.lemmas.List.Elements.{All-get_or}
use Rattle.std.proofs.str.Laws.{order}
use Rattle.std.specs.Char.{is_ascii_digit}
use Rattle.ent_types.specs.Names.{is_name_start}
use Rattle.expr_tokens.specs.Tokens.{Token, word, number, sign, bad, Placed, is_word, is_digits, IsToken, IsLongest, BeginsNone, IsSpace, Spans, Follows, AreTokens}
use Rattle.expr_tokens.proofs.Signs.{first_byte, front_byte, lengths, read, read_back}
use Rattle.expr_tokens.proofs.Fronts.{word_start, digits_start, start_no_digit, first_of, some_taken}

no_start : (b : ℕ) → b ≡ 32 → is_name_start b ≡ true → ⊥
no_start b space start = false≢true (sym (ap is_name_start space) ∙ start)

no_digit : (b : ℕ) → b ≡ 32 → is_ascii_digit b ≡ true → ⊥
no_digit b space digit = false≢true (sym (ap is_ascii_digit space) ∙ digit)

-- what a text begins with that isn't a space
pub record Begins (text : List ℕ) : Type 0 where
  pub some : 0 < length text
  pub no_space : get_or text 0 0 ≡ 32 → ⊥

begins_at : (n : ℕ) (text : List ℕ) → 0 < n → n ≤ length text → (get_or text 0 0 ≡ 32 → ⊥) → Begins text
begins_at n text positive within no_space = record { some = omega arith; no_space = no_space }

token_begins : (t : Token) (n : ℕ) (text : List ℕ) → n ≤ length text → IsToken t (take n text) → Begins text
token_begins (word name) n text within is =
    let positive = some_taken is_word n text refl is.0 in
    begins_at n text positive within (λ space. no_start (get_or text 0 0) space (sym (ap is_name_start (first_of n text positive)) ∙ word_start (take n text) is.0))
token_begins (number v) n text within is =
    let positive = some_taken is_digits n text refl is.0 in
    begins_at n text positive within (λ space. no_digit (get_or text 0 0) space (sym (ap is_ascii_digit (first_of n text positive)) ∙ digits_start (take n text) is.0))
token_begins (sign s) n text within is =
    begins_at n text (omega (arith, ap length is, length-take n text, (lengths s).0)) within
    (λ space. false≢true (sym (first_byte s).2 ∙ ap (λ b. eqb b 32) (sym (front_byte s n text is)) ∙ eq-eqb _ 32 space))
token_begins bad n text within is = absurd is

-- a token of this many bytes, or none
abbrev Either : Token → ℕ → List ℕ → Type 0
Either t n text = IsLongest t n text ⊎ ((t ≡ bad) × BeginsNone text × (n ≡ length text))

either : (t : Token) (n : ℕ) (text : List ℕ) → Spans t n text → Either t n text
either (word name) n text h = inl h
either (number v) n text h = inl h
either (sign s) n text h = inl h
either bad n text h = inr (refl, h.0, h.1)

none_begins : (text : List ℕ) → BeginsNone text → Begins text
none_begins text none = record { some = none.some; no_space = none.no_space 0 }

spans_begins : (t : Token) (n : ℕ) (text : List ℕ) → Spans t n text → Begins text
spans_begins t n text h = ⊎_elim (λ l. token_begins t n text l.within l.token) (λ b. none_begins text b.1) (either t n text h)

-- bytes are one token at most
one_token : (t u : Token) (n : ℕ) (text : List ℕ) → IsToken t (take n text) → IsToken u (take n text) → t ≡ u
one_token (word name) (word other) n text a b = ap word (a.1 ∙ sym b.1)
one_token (word name) (number v) n text a b = absurd (start_no_digit (get_or (take n text) 0 0) (word_start (take n text) a.0) (digits_start (take n text) b.0))
one_token (word name) (sign s) n text a b = absurd (false≢true (sym (first_byte s).0 ∙ ap (λ xs. is_name_start (get_or xs 0 0)) (sym b) ∙ word_start (take n text) a.0))
one_token (word name) bad n text a b = absurd b
one_token (number v) (word name) n text a b = absurd (start_no_digit (get_or (take n text) 0 0) (word_start (take n text) b.0) (digits_start (take n text) a.0))
one_token (number v) (number w) n text a b = ap number (a.1 ∙ sym b.1)
one_token (number v) (sign s) n text a b = absurd (false≢true (sym (first_byte s).1 ∙ ap (λ xs. is_ascii_digit (get_or xs 0 0)) (sym b) ∙ digits_start (take n text) a.0))
one_token (number v) bad n text a b = absurd b
one_token (sign s) (word name) n text a b = absurd (false≢true (sym (first_byte s).0 ∙ ap (λ xs. is_name_start (get_or xs 0 0)) (sym a) ∙ word_start (take n text) b.0))
one_token (sign s) (number v) n text a b = absurd (false≢true (sym (first_byte s).1 ∙ ap (λ xs. is_ascii_digit (get_or xs 0 0)) (sym a) ∙ digits_start (take n text) b.0))
one_token (sign s) (sign r) n text a b = let same : Some s ≡ Some r = sym (read_back s) ∙ ap read (sym a ∙ b) ∙ read_back r in ap sign cc
one_token (sign s) bad n text a b = absurd b
one_token bad u n text a b = absurd a

-- a text begins with one token of one length
one_front : (t u : Token) (n m : ℕ) (text : List ℕ) → Spans t n text → Spans u m text → (t ≡ u) × (n ≡ m)
one_front t u n m text first second =
    ⊎_elim
    (λ a. ⊎_elim
    (λ b. let same : n ≡ m = omega (arith, b.longest n t a.within a.token, a.longest m u b.within b.token) in
    (one_token t u n text a.token (subst (λ k. IsToken u (take k text)) (sym same) b.token), same))
    (λ b. absurd (b.1.none n t a.within a.token)) (either u m text second))
    (λ a. ⊎_elim
    (λ b. absurd (a.1.none m u b.within b.token))
    (λ b. (a.0 ∙ sym b.0, a.2 ∙ sym b.2)) (either u m text second))
    (either t n text first)

-- the byte at a token is no space
token_at : (from : ℕ) (text : List ℕ) (p : Placed) (gap n : ℕ) → Follows from text p gap n → (gap < length text) × (get_or text gap 0 ≡ 32 → ⊥)
token_at from text p gap n next =
    let begins = spans_begins p.token n (drop gap text) next.token in
    (omega (arith, begins.some, length-drop gap text), λ space. begins.no_space (get_or-drop gap text 0 0 ∙ ap (λ k. get_or text k 0) (add-zero gap) ∙ space))

-- the first token isn't among the spaces before the second
not_before : (from : ℕ) (text : List ℕ) (p q : Placed) (gap n gap' n' : ℕ) → Follows from text p gap n → Follows from text q gap' n' → gap < gap' → ⊥
not_before from text p q gap n gap' n' first second before =
    (token_at from text p gap n first).1
    (sym (get_or-take gap' text gap 0 before) ∙ All-get_or IsSpace (take gap' text) gap 0 (omega (arith, length-take-le gap' text second.within)) second.spaces)

one_gap : (from : ℕ) (text : List ℕ) (p q : Placed) (gap n gap' n' : ℕ) → Follows from text p gap n → Follows from text q gap' n' → gap ≡ gap'
one_gap from text p q gap n gap' n' first second =
    ⊎_elim (λ lt. absurd (not_before from text p q gap n gap' n' first second lt))
    (λ ge. ⊎_elim (λ lt. absurd (not_before from text q p gap' n' gap n second first lt)) (λ le. omega arith) (order gap' gap)) (order gap gap')

same_placed : (p q : Placed) → p.token ≡ q.token → p.at ≡ q.at → p ≡ q
same_placed p q token at i = record { token = token i; at = at i }

pub one_list : (ps qs : List Placed) (from : ℕ) (text : List ℕ) → AreTokens from text ps → AreTokens from text qs → ps ≡ qs
one_list [] [] from text a b = refl
one_list [] (q ∷ qs) from text a (gap, n, next, rest) = let here = token_at from text q gap n next in absurd (here.1 (All-get_or IsSpace text gap 0 here.0 a))
one_list (p ∷ ps) [] from text (gap, n, next, rest) b = let here = token_at from text p gap n next in absurd (here.1 (All-get_or IsSpace text gap 0 here.0 b))
one_list (p ∷ ps) (q ∷ qs) from text (gap, n, next, rest) (gap', n', next', rest') =
    let gaps = one_gap from text p q gap n gap' n' next next' in
    let front = one_front p.token q.token n n' (drop gap text) next.token (subst (λ k. Spans q.token n' (drop k text)) (sym gaps) next'.token) in
    let places : p.at ≡ q.at = next.place ∙ ap (λ k. from + k) gaps ∙ sym next'.place in
    let moved : AreTokens (p.at + n) (drop n (drop gap text)) qs =
    subst (λ k. AreTokens (p.at + n) (drop n (drop k text)) qs) (sym gaps)
    (subst (λ k. AreTokens (p.at + k) (drop k (drop gap' text)) qs) (sym front.1)
    (subst (λ at. AreTokens (at + n') (drop n' (drop gap' text)) qs) (sym places) rest')) in
    let heads = same_placed p q front.0 places in
    let tails = one_list ps qs (p.at + n) (drop n (drop gap text)) rest moved in
    λ i. heads i ∷ tails i
