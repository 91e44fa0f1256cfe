-- Each fact about the tables is computed.
use Rattle.std.proofs.Common.{refl}
use Rattle.msvc_facts.proofs.OnLiterals.{printing}
use Rattle.msvc_facts.specs.Letters.{AreTables}

pub tables : AreTables
unfolding printing
tables = record {
  special_codes = refl;
  forms = refl;
  classes = refl;
  storage = (refl, refl);
  on_this = (refl, refl);
  of_returns = (refl, refl);
  of_arrays = (refl, refl);
  of_pointers = (refl, refl);
  of_restricted = (refl, refl);
  of_unaligned = (refl, refl);
  of_references = (refl, refl);
  calls = refl;
  types_of_one_letter = refl;
  types_of_two_letters = refl;
  compound_types = (refl, refl);
  all_types = refl;
  tags = refl;
  marks = refl;
  encodings = (refl, refl);
  of_variables = refl;
  decimal_digits = (refl, refl);
  halves = (refl, refl);
  of_hashes = (refl, refl);
  escaped = (refl, refl);
  plain_bytes = (refl, refl);
  sizes = (refl, refl);
}
