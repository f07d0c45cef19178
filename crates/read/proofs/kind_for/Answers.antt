use mathlib.Core.Path.{sym, ap}
use native.Mathlib.Omega.{arith}
use borrow.Author.Tests.{not-true, not-false}
use borrow.Author.Rules.{rules}
use Rattle.book.specs.declared.Kind.{Kind}
use Rattle.read.proofs.Letters.{seek-start, seek-here, seek_stop, seek-next, seek-end}
use Rattle.read.proofs.kind_for.Goals as goal

pub loop-k-init : goal.loop-k-init
loop-k-init c = seek-start _ _

pub returns-then-x-b : goal.returns-then-x-b
returns-then-x-b c = (seek-here _ _ c.loop-k.k (omega arith) c.loop-k.invariant _ (ap (λ (x : Kind). x.letter) c.kind_at-x.ensures) (search rules), omega arith)

pub returns-then-not-x : goal.returns-then-not-x
returns-then-not-x c = sym (seek_stop _ _ c.loop-k.k (omega arith) c.loop-k.invariant _ (ap (λ (x : Kind). x.letter) c.kind_at-x.ensures) (search rules) _ (ap (λ (x : Kind). x.row) c.kind_at-x.ensures) (not-true _ (search rules)))

pub loop-k-preserved : goal.loop-k-preserved
loop-k-preserved c = seek-next _ _ c.loop-k.k (omega arith) c.loop-k.invariant _ (ap (λ (x : Kind). x.letter) c.kind_at-x.ensures) (search rules) _ (ap (λ (x : Kind). x.row) c.kind_at-x.ensures) (not-false _ (search rules))

pub returns : goal.returns
returns c = sym (seek-end _ _ c.loop-k.k (omega arith) c.loop-k.invariant)
