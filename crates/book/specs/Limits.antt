-- The limits of a book (document 01, 'A book and its lines'; document 02, (c), (e), (g)). Nothing else in the definitions repeats these numbers, except that
-- promises/specs/Noted has those of document 01, which stand still.
use Rattle.std.specs.Prelude.{ℕ}

-- The most statements, n.
abbrev pub statements : ℕ
statements = 48

-- The most plain rules, R lines.
abbrev pub plain : ℕ
plain = 200

-- The most plain rules with alternatives, O lines.
abbrev pub alternatives : ℕ
alternatives = 40

-- The most exceptions, X lines.
abbrev pub exceptions : ℕ
exceptions = 16

-- The most exceptions of a book that keeps the short form of Line, which has as many fields for them (document 02, (c)).
abbrev pub short_line : ℕ
short_line = 12

-- The most preferences, P lines.
abbrev pub preferences : ℕ
preferences = 32

-- The most preferences under a condition, Q lines.
abbrev pub conditionals : ℕ
conditionals = 32
