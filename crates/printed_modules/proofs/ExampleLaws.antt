-- There are modules that are as printed ones.
use Rattle.std.proofs.Common.{◌≡◌, ℕ, suc, ◌^◌, ◌-◌, false, List, [], ◌∷◌, codes, refl, ◌∙◌, arith}
use Rattle.ir_values.specs.declared.types.Width.TheVariants.{W64}
use Rattle.ir_values.specs.declared.types.Ty.TheVariants as ty
use Rattle.ir_values.specs.declared.types.Ty.TheVariants.{outs-Int, outs-Ptr, outs-Array}
use Rattle.ir_values.specs.declared.constants.Const.TheVariants as const
use Rattle.ir_values.specs.declared.constants.Const.TheVariants.{outs-Addr}
use Rattle.ir_names.specs.Names.{is_decimal, is_number, is_digit}
use Rattle.ir_print.specs.ModuleText.{is_call}
use Rattle.type_grammar.specs.Levels.{levels}
use Rattle.check_types.specs.Measures.{single, within, measure}
use Rattle.printed_units.specs.Written.{IsBytes, IsName, IsAddress, IsConstWithin, IsInit, IsBlock, IsFunc, IsVar, IsTable, IsWritten, IsTy}
use Rattle.printed_modules.specs.Printed.{IsKeptInit, IsKeptFunc, IsKeptVar, IsPrinted}
use Rattle.printed_modules.proofs.TypeKept.{measure_opened}
use Rattle.printed_modules.specs.Examples.{example, variable, table, declared, defined, body, long}

name : (text : List ℕ) → IsBytes text → is_decimal text ≡ false → IsName text
name text bytes other = record { bytes = bytes; small = λ e. absurd (cc (other, e)) }

zero : IsName (codes "0")
unfolding is_decimal is_number is_digit
zero = record { bytes = refl; small = λ e. refl }

f : IsName (codes "f")
unfolding is_decimal is_digit
f = name (codes "f") refl refl

g : IsName (codes "g")
unfolding is_decimal is_digit
g = name (codes "g") refl refl

p : IsName (codes "p")
unfolding is_decimal is_digit
p = name (codes "p") refl refl

r : IsName (codes "r")
unfolding is_decimal is_digit
r = name (codes "r") refl refl

t : IsName (codes "t")
unfolding is_decimal is_digit
t = name (codes "t") refl refl

v : IsName (codes "v")
unfolding is_decimal is_digit
v = name (codes "v") refl refl

label : IsName (codes "a b")
unfolding is_decimal is_digit
label = name (codes "a b") refl refl

long_type : IsTy long
unfolding levels
long_type = rw (outs-Int W64) tt

pointer_type : IsTy ty.Ptr
unfolding levels
pointer_type = rw outs-Ptr tt

pair_type : IsTy variable.ty
unfolding levels
pair_type = rw (outs-Array 2 ty.Ptr, outs-Ptr) (grind (arith), tt)

address_is : (n : ℕ) (name : List ℕ) (offset : ℕ) → IsAddress (suc n) name offset → IsConstWithin (suc n) ty.Ptr (const.Addr name offset)
address_is n name offset is = rw (outs-Ptr, outs-Addr name offset) is

variable_init : IsInit variable.ty variable.init
unfolding levels
variable_init = rw (outs-Array 2 ty.Ptr, const.outs-Array ty.Ptr (const.Addr (codes "f") 0 ∷ const.Addr (codes "g") (2 ^ 64 - 8) ∷ [])) (
  refl,
  refl,
  record {
    type = rw outs-Ptr tt;
    some = refl;
    each = (
      address_is _ (codes "f") 0 (record { name = f; near = grind (arith); levels = grind (arith) }),
      (address_is _ (codes "g") (2 ^ 64 - 8) (record { name = g; near = grind (arith); levels = grind (arith) }), tt),
    );
  },
)

variable_written : IsVar variable
variable_written = record { name = v; type = pair_type; init = variable_init; align = grind (arith) }

table_written : IsTable table
table_written = record { name = t; some = refl; each = (f, tt) }

declared_written : IsFunc declared
declared_written = record { name = g; result = long_type; params = (long_type, tt); blocks = tt }

body_written : IsBlock body
body_written = record {
  label = label;
  insts = (
    (r, long_type, p),
    refl,
    ((zero, long_type, g, ((long_type, r), tt)), refl, ((rw (outs-Int W64) refl, long_type, zero), refl)),
  );
}

defined_written : IsFunc defined
defined_written = record { name = f; result = long_type; params = ((pointer_type, p), tt); blocks = (body_written, tt) }

written : IsWritten example
written = record { vars = (variable_written, tt); tables = (table_written, tt); funcs = (declared_written, (defined_written, tt)) }

init_kept : IsKeptInit variable.init
unfolding levels
init_kept = rw (
  const.outs-Array ty.Ptr (const.Addr (codes "f") 0 ∷ const.Addr (codes "g") (2 ^ 64 - 8) ∷ []),
  outs-Ptr,
  outs-Addr (codes "f") 0,
  outs-Addr (codes "g") (2 ^ 64 - 8),
) (refl, refl, (tt, (tt, tt)))

pointer_measure : measure [] ty.Ptr ≡ single 8 8
pointer_measure = measure_opened [] ty.Ptr ∙ rw outs-Ptr refl

pair_measure : measure [] variable.ty ≡ within 2 16 8
pair_measure = measure_opened [] variable.ty ∙ rw (outs-Array 2 ty.Ptr, pointer_measure) refl

variable_kept : IsKeptVar variable
variable_kept = record { linkage = refl; init = init_kept; align = rw pair_measure (grind (arith)); entries = refl; visibility = refl }

defined_kept : IsKeptFunc example.funcs defined
defined_kept = record {
  linkage = refl;
  entries = refl;
  blocks = (
    (
      record { operands = (tt, tt); calls = tt },
      (record { operands = (tt, tt); calls = (tt, refl) }, (record { operands = (tt, tt); calls = tt }, tt)),
    ),
    tt,
  );
}

pub example_is_printed : IsPrinted example
unfolding is_call
example_is_printed = record {
  written = written;
  order = refl;
  vars = (variable_kept, tt);
  funcs = (record { linkage = refl; entries = refl; blocks = tt }, (defined_kept, tt));
  apart = (refl, (refl, (refl, (refl, tt))));
  no_intrinsic = (refl, (refl, tt));
}
