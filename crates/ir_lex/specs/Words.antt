-- The words of the language that have a meaning of their own, by where they stand, and the tables of words.
use Rattle.std.specs.Prelude.{◌≡◌, ℕ, Bool, true, false, ◌&&◌, ◌||◌, ◌==◌, ◌↔◌, nat_lt, IsTrue, List, [], ◌∷◌, ◌++◌, codes, Contains}

-- the linkage of an item
abbrev pub linkage_words : List (List ℕ)
linkage_words =
    codes "private" ∷ codes "internal" ∷ codes "linkonce" ∷ codes "weak" ∷ codes "linkonce_odr" ∷ codes "weak_odr" ∷
    codes "external" ∷ []

-- the linkages that are left out
abbrev pub left_linkage_words : List (List ℕ)
left_linkage_words =
    codes "available_externally" ∷ codes "common" ∷ codes "extern_weak" ∷ codes "appending" ∷ []

-- dropped before the type of an item or of a call
abbrev pub item_words : List (List ℕ)
item_words =
    codes "dso_local" ∷ codes "dso_preemptable" ∷ codes "default" ∷ codes "hidden" ∷ codes "protected" ∷
    codes "unnamed_addr" ∷ codes "local_unnamed_addr" ∷ codes "ccc" ∷ codes "fastcc" ∷ codes "coldcc" ∷ []

-- dropped at parameters, arguments and results
abbrev pub value_words : List (List ℕ)
value_words =
    codes "zeroext" ∷ codes "signext" ∷ codes "inreg" ∷ codes "noalias" ∷ codes "nocapture" ∷ codes "nofree" ∷
    codes "returned" ∷ codes "nonnull" ∷ codes "noundef" ∷ codes "readnone" ∷ codes "readonly" ∷ codes "writeonly" ∷
    codes "immarg" ∷ codes "dead_on_unwind" ∷ codes "dead_on_return" ∷ codes "noext" ∷ codes "writable" ∷
    codes "allocptr" ∷ codes "allocalign" ∷ codes "align" ∷ []

-- the same, with a balanced parenthesis
abbrev pub value_words_with_arguments : List (List ℕ)
value_words_with_arguments =
    codes "captures" ∷ codes "dereferenceable" ∷ codes "dereferenceable_or_null" ∷ codes "range" ∷
    codes "initializes" ∷ codes "nofpclass" ∷ codes "elementtype" ∷ codes "dead_on_return" ∷ codes "sret" ∷
    codes "align" ∷ []

-- dropped behind parameters
abbrev pub function_words : List (List ℕ)
function_words =
    codes "unnamed_addr" ∷ codes "local_unnamed_addr" ∷ codes "alwaysinline" ∷ codes "builtin" ∷ codes "cold" ∷
    codes "convergent" ∷ codes "hot" ∷ codes "inlinehint" ∷ codes "minsize" ∷ codes "mustprogress" ∷
    codes "nobuiltin" ∷ codes "nocallback" ∷ codes "nofree" ∷ codes "noinline" ∷ codes "norecurse" ∷
    codes "noreturn" ∷ codes "nosync" ∷ codes "nounwind" ∷ codes "optnone" ∷ codes "optsize" ∷ codes "readnone" ∷
    codes "readonly" ∷ codes "writeonly" ∷ codes "argmemonly" ∷ codes "speculatable" ∷ codes "ssp" ∷
    codes "sspstrong" ∷ codes "sspreq" ∷ codes "uwtable" ∷ codes "willreturn" ∷ []

-- the same, with a balanced parenthesis
abbrev pub function_words_with_arguments : List (List ℕ)
function_words_with_arguments =
    codes "memory" ∷ codes "allockind" ∷ codes "allocsize" ∷ codes "uwtable" ∷ []

-- dropped in instructions
abbrev pub instruction_words : List (List ℕ)
instruction_words =
    codes "nsw" ∷ codes "nuw" ∷ codes "exact" ∷ codes "disjoint" ∷ codes "nneg" ∷ codes "inbounds" ∷ codes "nusw" ∷
    codes "samesign" ∷ codes "inrange" ∷ []

-- the words that are left out: each makes what it begins a left unit
abbrev pub left_words : List (List ℕ)
left_words =
    codes "alloca" ∷ codes "ptrtoint" ∷ codes "inttoptr" ∷ codes "bitcast" ∷ codes "addrspacecast" ∷ codes "freeze" ∷
    codes "fence" ∷ codes "cmpxchg" ∷ codes "atomicrmw" ∷ codes "volatile" ∷ codes "atomic" ∷ codes "invoke" ∷
    codes "landingpad" ∷ codes "resume" ∷ codes "catchswitch" ∷ codes "catchpad" ∷ codes "cleanuppad" ∷
    codes "catchret" ∷ codes "cleanupret" ∷ codes "callbr" ∷ codes "indirectbr" ∷ codes "va_arg" ∷
    codes "insertvalue" ∷ codes "extractelement" ∷ codes "insertelement" ∷ codes "shufflevector" ∷ codes "fadd" ∷
    codes "fsub" ∷ codes "fmul" ∷ codes "fdiv" ∷ codes "frem" ∷ codes "fneg" ∷ codes "fcmp" ∷ codes "fptrunc" ∷
    codes "fpext" ∷ codes "fptoui" ∷ codes "fptosi" ∷ codes "uitofp" ∷ codes "sitofp" ∷ codes "musttail" ∷
    codes "byval" ∷ codes "alias" ∷ codes "ifunc" ∷ codes "module" ∷ codes "thread_local" ∷
    codes "externally_initialized" ∷ codes "addrspace" ∷ codes "uselistorder" ∷ codes "jumptable" ∷ []

-- all of these
abbrev pub keyword_words : List (List ℕ)
keyword_words =
    linkage_words ++ left_linkage_words ++ item_words ++ value_words ++ value_words_with_arguments
    ++ function_words ++ function_words_with_arguments ++ instruction_words ++ left_words

-- the operations on two integers
abbrev pub operation_words : List (List ℕ)
operation_words =
    codes "add" ∷ codes "sub" ∷ codes "mul" ∷ codes "udiv" ∷ codes "sdiv" ∷ codes "urem" ∷ codes "srem" ∷
    codes "shl" ∷ codes "lshr" ∷ codes "ashr" ∷ codes "and" ∷ codes "or" ∷ codes "xor" ∷ []

-- the predicates of comparisons
abbrev pub predicate_words : List (List ℕ)
predicate_words =
    codes "eq" ∷ codes "ne" ∷ codes "ugt" ∷ codes "uge" ∷ codes "ult" ∷ codes "ule" ∷ codes "sgt" ∷ codes "sge" ∷
    codes "slt" ∷ codes "sle" ∷ []
