-- The bytes that the encoded bytes of a string stand for.
use Rattle.std.specs.Prelude.{ℕ, List, [], ◌∷◌, ◌+◌, ◌*◌, ◌==◌, Option, Some, None, if◌then◌else◌}
use Rattle.std.specs.Option.{option_map}
use Prim.Native.Char.{code}
use Rattle.msvc_rules.specs.Rules.{lookup}
use Rattle.msvc_full_grammar.specs.Letters.{escapes, hexadecimal, hexadecimal_base}

-- a byte, if it is one, before others, if these are some
abbrev pub before : Option ℕ → Option (List ℕ) → Option (List ℕ)
before None bs = None
before (Some b) None = None
before (Some b) (Some bs) = Some (b ∷ bs)

-- the byte of two digits to base 16
abbrev pub byte_of : Option ℕ → Option ℕ → Option ℕ
byte_of None low = None
byte_of (Some high) low = option_map (λ l. high * hexadecimal_base + l) low

unfoldable mutual
  -- A byte stands for itself, but for a ?; nothing where some byte stands for none.
  pub decoded : List ℕ → Option (List ℕ)
  decoded [] = Some []
  decoded (b ∷ bs) = if b == code "?" then escaped bs else before (Some b) (decoded bs)

  -- after a ?: two digits after a $, or one more byte
  pub escaped : List ℕ → Option (List ℕ)
  escaped [] = None
  escaped (b ∷ bs) = if b == code "$" then in_digits bs else before (lookup b escapes) (decoded bs)

  -- after a ?$
  pub in_digits : List ℕ → Option (List ℕ)
  in_digits [] = None
  in_digits (high ∷ bs) = low_digit (lookup high hexadecimal) bs

  -- after the first of two digits
  pub low_digit : Option ℕ → List ℕ → Option (List ℕ)
  low_digit high [] = None
  low_digit high (low ∷ bs) = before (byte_of high (lookup low hexadecimal)) (decoded bs)
