-- The tables that Full shares with the crate's grammar, so that one function serves both.
use Rattle.std.proofs.Common.{◌≡◌, refl}
use Rattle.msvc_grammar.specs.Letters as crate_s
use Rattle.msvc_full_grammar.specs.Letters as full_s

pub same_digits : crate_s.digits ≡ full_s.digits
same_digits = refl

pub same_hexadecimal : crate_s.hexadecimal ≡ full_s.hexadecimal
same_hexadecimal = refl

pub same_hexadecimal_codes : crate_s.hexadecimal_codes ≡ full_s.hexadecimal_codes
same_hexadecimal_codes = refl

pub same_qualifiers : crate_s.qualifiers ≡ full_s.qualifiers
same_qualifiers = refl

pub same_base_types : crate_s.base_types ≡ full_s.base_types
same_base_types = refl

pub same_extended_types : crate_s.extended_types ≡ full_s.extended_types
same_extended_types = refl

pub same_reference_qualifiers : crate_s.reference_qualifiers ≡ full_s.reference_qualifiers
same_reference_qualifiers = refl
