-- The numbers of the rows of the table of shapes, as `src/rows.rt` has them.
use Rattle.std.specs.Prelude.{ℕ}

abbrev pub integer : ℕ
integer = 0

abbrev pub custom : ℕ
custom = 1

abbrev pub nullptr : ℕ
nullptr = 2

abbrev pub arrays : ℕ
arrays = 3

abbrev pub member_pointer : ℕ
member_pointer = 4

abbrev pub extern_c : ℕ
extern_c = 5

abbrev pub frame : ℕ
frame = 6

abbrev pub literal_operator : ℕ
literal_operator = 7

abbrev pub spaceship : ℕ
spaceship = 8

abbrev pub address : ℕ
address = 9

abbrev pub object : ℕ
object = 10

abbrev pub offsets : ℕ
offsets = 11

abbrev pub symbol_offsets : ℕ
symbol_offsets = 12

abbrev pub typed : ℕ
typed = 13

abbrev pub adjustor : ℕ
adjustor = 14

abbrev pub vtordisp : ℕ
vtordisp = 15

abbrev pub vtordispex : ℕ
vtordispex = 16

abbrev pub tables : ℕ
tables = 17

abbrev pub type_descriptor : ℕ
type_descriptor = 18

abbrev pub md5_locator : ℕ
md5_locator = 19

abbrev pub initializer_of_name : ℕ
initializer_of_name = 20

abbrev pub initializer_of_variable : ℕ
initializer_of_variable = 21

abbrev pub destructor_of_name : ℕ
destructor_of_name = 22

abbrev pub destructor_of_variable : ℕ
destructor_of_variable = 23

abbrev pub static_guard : ℕ
static_guard = 24

abbrev pub thread_guard : ℕ
thread_guard = 25

abbrev pub string_literal : ℕ
string_literal = 26

abbrev pub wide_string_literal : ℕ
wide_string_literal = 27

abbrev pub managed_vector_ctor_iterator : ℕ
managed_vector_ctor_iterator = 28

abbrev pub managed_vector_dtor_iterator : ℕ
managed_vector_dtor_iterator = 29

abbrev pub eh_vector_copy_ctor_iterator : ℕ
eh_vector_copy_ctor_iterator = 30

abbrev pub eh_vector_vbase_copy_ctor_iterator : ℕ
eh_vector_vbase_copy_ctor_iterator = 31

abbrev pub vector_copy_ctor_iterator : ℕ
vector_copy_ctor_iterator = 32

abbrev pub vector_vbase_copy_ctor_iterator : ℕ
vector_vbase_copy_ctor_iterator = 33

abbrev pub managed_vector_vbase_copy_ctor_iterator : ℕ
managed_vector_vbase_copy_ctor_iterator = 34

abbrev pub type_descriptor_name : ℕ
type_descriptor_name = 35

abbrev pub displacement : ℕ
displacement = 36

abbrev pub auto : ℕ
auto = 37

abbrev pub decltype_auto : ℕ
decltype_auto = 38

abbrev pub block : ℕ
block = 39

abbrev pub handle : ℕ
handle = 40

abbrev pub tracking : ℕ
tracking = 41

abbrev pub interface : ℕ
interface = 42

abbrev pub null_member : ℕ
null_member = 43

abbrev pub absent : ℕ
absent = 44

abbrev pub member_of : ℕ
member_of = 45

abbrev pub float : ℕ
float = 46

abbrev pub double : ℕ
double = 47

abbrev pub float16 : ℕ
float16 = 48

abbrev pub bfloat16 : ℕ
bfloat16 = 49

abbrev pub float80 : ℕ
float80 = 50

abbrev pub float128 : ℕ
float128 = 51

abbrev pub ibm128 : ℕ
ibm128 = 52

abbrev pub pin : ℕ
pin = 53

abbrev pub cli_array : ℕ
cli_array = 54

abbrev pub catch_funclet : ℕ
catch_funclet = 55

abbrev pub template_object : ℕ
template_object = 56

abbrev pub subobject : ℕ
subobject = 57

abbrev pub member : ℕ
member = 58

abbrev pub element : ℕ
element = 59

abbrev pub aggregate : ℕ
aggregate = 60

abbrev pub values : ℕ
values = 61

abbrev pub empty_union : ℕ
empty_union = 62

abbrev pub union_value : ℕ
union_value = 63

abbrev pub destructor_funclet : ℕ
destructor_funclet = 64

abbrev pub filter_funclet : ℕ
filter_funclet = 65

abbrev pub finally_funclet : ℕ
finally_funclet = 66

abbrev pub explicit_this : ℕ
explicit_this = 67
