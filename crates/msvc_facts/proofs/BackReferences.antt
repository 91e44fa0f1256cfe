-- Each fact about back references is computed.
use Rattle.std.proofs.Common.{refl}
use Rattle.msvc_facts.proofs.OnLiterals.{printing, reading}
use Rattle.msvc_facts.proofs.Symbols.{is_refused, is_shown}
use Rattle.msvc_facts.specs.BackReferences.{AreNameReferences, AreTypeReferences, AreWrittenOut}

pub name_references : AreNameReferences
unfolding reading printing
name_references = record {
  equal = is_shown refl;
  interface = is_shown refl;
  eleventh = is_shown refl;
  full = refl;
  anonymous = is_shown refl;
  without_0x = is_shown refl;
  template = is_shown refl;
  own_template = is_shown refl;
  in_template = is_shown refl;
  outside = is_refused refl;
  own_name = is_shown refl;
  special_name = is_shown refl;
  nested = is_shown refl;
}

pub type_references : AreTypeReferences
unfolding reading printing
type_references = record {
  equal = is_shown refl;
  other_bytes = is_shown refl;
  qualifiers = is_shown refl;
  mark = is_shown refl;
  eleventh = is_shown refl;
  full = refl;
  one_byte = is_shown refl;
  digit = is_shown refl;
  returned = is_shown refl;
  pointee = is_shown refl;
  inner = is_shown refl;
  whole = is_shown refl;
  in_template = is_shown refl;
  outside = is_refused refl;
}

pub written_out : AreWrittenOut
written_out = record {
  pointer = refl;
  function = refl;
  last = refl;
}
