-- Names with the spelling that gdb 13 and gdb 16 have for them in an index that they write.
use Rattle.std.specs.Prelude.{◌≡◌, codes}
use Rattle.cxx_spelling.specs.declared.release.Release.TheVariants.{Gdb13, Gdb16}
use Rattle.cxx_spelling.specs.Spelling.{gdb_spelling}

pub record Types : Type 0 where
  pub unsigned_alone : gdb_spelling Gdb13 (codes "unsigned") ≡ codes "unsigned int"
  pub words_in_order : gdb_spelling Gdb13 (codes "long unsigned int") ≡ codes "unsigned long"
  pub argument : gdb_spelling Gdb13 (codes "Box<long unsigned int>") ≡ codes "Box<unsigned long>"
  pub qualifiers_behind : gdb_spelling Gdb13 (codes "volatile const A<const char>") ≡ codes "A<char const> const volatile"
  pub lists : gdb_spelling Gdb13 (codes "::A<B<int> ,short int>::C") ≡ codes "A<B<int>, short>::C"
  pub no_name : gdb_spelling Gdb13 (codes "A<(anonymous namespace)::B, long int>") ≡ codes "A<(anonymous namespace)::B, long>"

pub record Declarators : Type 0 where
  pub pointers : gdb_spelling Gdb13 (codes "A<const B *const &>") ≡ codes "A<B const* const&>"
  pub functions : gdb_spelling Gdb13 (codes "A<int(*)(long int, ...)>") ≡ codes "A<int (*)(long, ...)>"
  pub no_parameters : gdb_spelling Gdb13 (codes "A<int (*)(void)>") ≡ codes "A<int (*)()>"
  pub nested : gdb_spelling Gdb13 (codes "A<int (*(*)(char))(long int)>") ≡ codes "A<int (*(*)(char))(long)>"
  pub members : gdb_spelling Gdb13 (codes "A<void(C::*)(long int) const>") ≡ codes "A<void (C::*)(long) const>"
  pub arrays : gdb_spelling Gdb13 (codes "A<long int (&)[3], char*[2][5]>") ≡ codes "A<long (&) [3], char* [2][5]>"
  pub pointers_to_arrays : gdb_spelling Gdb13 (codes "A<int (*(*)[2])(long int)>") ≡ codes "A<int (* (*) [2])(long)>"
  pub conversion : gdb_spelling Gdb13 (codes "operator const A<long int>*") ≡ codes "operator A<long> const*"

pub record Constants : Type 0 where
  pub truths : gdb_spelling Gdb13 (codes "A<(bool)1, (bool)0, (bool)2>") ≡ codes "A<true, false, (bool)2>"
  pub suffixes : gdb_spelling Gdb13 (codes "A<(unsigned long)4, (long long)-1, 5LU>") ≡ codes "A<4ul, -1ll, 5ul>"
  pub types_that_stay : gdb_spelling Gdb13 (codes "A<(short)1, (N::E)2u>") ≡ codes "A<(short)1, (N::E)2>"
  pub characters : gdb_spelling Gdb13 (codes "A<'a', (unsigned)'b'>") ≡ codes "A<(char)'a', 'b'u>"
  pub addresses : gdb_spelling Gdb13 (codes "A<(& N::f<int>)>") ≡ codes "A<&N::f<int> >"
  pub floating : gdb_spelling Gdb13 (codes "A<1.5e+0, -2.0f, (float)1>") ≡ codes "A<(double)[1.5e+0], (float)-[2.0], (float)[1]>"
  pub numbers_for_truths : gdb_spelling Gdb13 (codes "A<(E)true, (int)false>") ≡ codes "A<(E)1, 0>"
  pub templates : gdb_spelling Gdb13 (codes "A<&f<long int>, ((int*)(& g))>") ≡ codes "A<&(f<long>), (int*)(&g)>"
  pub conversions : gdb_spelling Gdb13 (codes "A<&B::operator const char*>") ≡ codes "A<&B::operator char const*>"

pub record Kept : Type 0 where
  pub shift : gdb_spelling Gdb13 (codes "A<B<long int>>") ≡ codes "A<B<long int>>"
  pub function_type : gdb_spelling Gdb13 (codes "A<void (long int)>") ≡ codes "A<void (long int)>"
  pub no_argument : gdb_spelling Gdb13 (codes "A<>") ≡ codes "A<>"
  pub no_last_argument : gdb_spelling Gdb13 (codes "A<long int, >") ≡ codes "A<long int, >"
  pub destructor : gdb_spelling Gdb13 (codes "~A<long int>") ≡ codes "~A<long int>"
  pub other_operator : gdb_spelling Gdb13 (codes "operator==<long int>") ≡ codes "operator==<long int>"
  pub lambda : gdb_spelling Gdb13 (codes "A<f()::<lambda(long int)> >") ≡ codes "A<f()::<lambda(long int)> >"
  pub expression : gdb_spelling Gdb13 (codes "A<long int, x + 1>") ≡ codes "A<long int, x + 1>"

-- types of functions as arguments in gdb 16
pub record Functions : Type 0 where
  pub no_blank : gdb_spelling Gdb16 (codes "A<void (long int), int () const>") ≡ codes "A<void(long), int() const>"
  pub nested : gdb_spelling Gdb16 (codes "A<B<C (D)> (B<long double (E::F)>)>") ≡ codes "A<B<C(D)>(B<long double(E::F)>)>"
  pub class_or_parameter : gdb_spelling Gdb16 (codes "A<B(C<D(long int)>::*)(E), B (C::D*, int)>") ≡ codes "A<B (C<D(long)>::*)(E), B(C::D*, int)>"
  pub pointers : gdb_spelling Gdb16 (codes "A<unsigned(&)(void), B (int (*)[3])>") ≡ codes "A<unsigned int (&)(), B(int (*) [3])>"

-- integer literals in gdb 16
pub record Numbers : Type 0 where
  pub bases : gdb_spelling Gdb16 (codes "A<0x1Ful, -017, 0b101, 00>") ≡ codes "A<31ul, -15, 5, 0>"
  pub decimal : gdb_spelling Gdb16 (codes "A<-0, 340282366920938463463374607431768211456>") ≡ codes "A<-0, 340282366920938463463374607431768211456>"
  pub operands : gdb_spelling Gdb16 (codes "A<(bool)0x1, (E)(-0x10), (unsigned)017, int[0xa]>") ≡ codes "A<true, (E)-16, 15u, int [10]>"

-- characters in gdb 16
pub record Characters : Type 0 where
  pub codes_of : gdb_spelling Gdb16 (codes "A<'a', '\\n', '\\'', '\\777'>") ≡ codes "A<(char)97, (char)10, (char)39, (char)511>"
  pub operands : gdb_spelling Gdb16 (codes "A<(E)'a', (unsigned)'b', (bool)'\\1', (float)'a'>") ≡ codes "A<(E)97, 98u, true, (float)[97]>"

-- what the grammar refuses of them
pub record KeptBy16 : Type 0 where
  pub qualified_result : gdb_spelling Gdb16 (codes "A<void const (long int)>") ≡ codes "A<void const (long int)>"
  pub pointer_as_result : gdb_spelling Gdb16 (codes "A<void* (long int)>") ≡ codes "A<void* (long int)>"
  pub function_as_parameter : gdb_spelling Gdb16 (codes "A<void (int (long int))>") ≡ codes "A<void (int (long int))>"
  pub no_octal_digit : gdb_spelling Gdb16 (codes "A<08, long int>") ≡ codes "A<08, long int>"
  pub no_suffix : gdb_spelling Gdb16 (codes "A<10lu5, long int>") ≡ codes "A<10lu5, long int>"
