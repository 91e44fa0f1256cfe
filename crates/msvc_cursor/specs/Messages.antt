-- What the messages of syntax errors say, and which is about a limit.
use Rattle.std.specs.Prelude.{ℕ, List, ◌++◌, ◌||◌, Bool, Option, Some, None, codes, is_none, nat_lt}
use Rattle.std.specs.Char.{encode_utf8}
use Rattle.std.specs.Fmt.{decimal, signed_decimal}
use Rattle.msvc_nodes.specs.Errors.{too_many_nodes}
use Rattle.msvc_nodes.specs.declared.error.Limit.{Limit}
use Rattle.msvc_nodes.specs.declared.error.Limit.TheVariants.{Bytes, Nodes}
use Rattle.msvc_cursor.specs.declared.failure.Message.{Message}
use Rattle.msvc_cursor.specs.declared.failure.Message.TheVariants as messages
use Rattle.msvc_cursor.specs.declared.failure.Failure.{Failure}
use Rattle.msvc_cursor.specs.declared.failure.Failure.TheVariants as failure

-- the words of each message
abbrev pub message_words : Message → List ℕ
message_words messages.NoQuestionMark = codes "does not start with b'?'"
message_words messages.EndOfInput = codes "unexpected end of input"
message_words messages.MissingAt = codes "read_string: missing b'@'"
message_words messages.NameExpected = codes "name expected"
message_words messages.BadNumber = codes "bad number"
message_words messages.NameReferenceTooLarge = codes "name reference too large"
message_words (messages.InvalidBackReference index) = codes "invalid backreference: " ++ decimal index
message_words (messages.InvalidArrayDimension dimension) =
    codes "invalid array dimension: " ++ signed_decimal dimension
message_words messages.UnknownStorageClass = codes "unknown storage class"
message_words messages.UnknownPrimitiveType = codes "unknown primitive type"
message_words messages.UnknownCallingConv = codes "unknown calling conv"
message_words messages.UnknownFuncClass = codes "unknown func class"
message_words messages.ZExpected = codes "Z expected"
message_words messages.AtExpected = codes "@ expected"
message_words messages.QuestionMarkExpected = codes "? expected"
message_words messages.AExpected = codes "A expected"
message_words messages.BExpected = codes "B expected"
message_words messages.GuardTypeExpected = codes "4HA expected"
message_words messages.MissingDigit = codes "missing digit"
message_words messages.GuardNumberTooLarge = codes "static guard number too large"
message_words messages.UnexpectedLocalGuardMarker = codes "unexpected local guard marker"
message_words messages.ExpectedUnsigned = codes "expected unsigned"
message_words messages.UnknownStringCharacterType = codes "unknown string character type"
-- the character whose number the byte is
message_words (messages.UnknownCharacter byte) =
    codes "unknown escaped encoded string character " ++ encode_utf8 byte
message_words messages.HashLength = codes "expected MD5 mangled name of length 32"
message_words messages.UnknownOperatorName = codes "unknown operator name"
message_words messages.UnknownRttiOperatorName = codes "unknown RTTI Operator name"
message_words messages.UnknownTemplateValue = codes "unknown template value"
message_words messages.UnknownManagedPointer = codes "unknown managed pointer"
message_words messages.VariableExpected = codes "variable expected"
message_words messages.ZeroExpected = codes "0 expected"
message_words messages.StringStartExpected = codes "@_ expected"
message_words messages.InitializerEndExpected = codes "@@ expected"
message_words messages.DescriptorEndExpected = codes "@8 expected"
message_words messages.FuncletScopeExpected = codes "?0? expected"
message_words messages.FuncletEndExpected = codes "@4HA expected"
message_words messages.TooManyNodes = too_many_nodes

-- the limit that a message is about
abbrev pub limit_of_message : Message → Option Limit
limit_of_message messages.TooManyNodes = Some Nodes
limit_of_message _ = None

-- the limit that a failure is about
abbrev pub limit_of_failure : Failure → Option Limit
limit_of_failure failure.Memory = None
limit_of_failure (failure.Rejected message left) = limit_of_message message
limit_of_failure (failure.TooLong length) = Some Bytes

-- a reader fails for the limit on nodes only where a node weighs something
abbrev pub may_fail_for : ℕ → Failure → Bool
may_fail_for weight reason = nat_lt 0 weight || is_none (limit_of_failure reason)
