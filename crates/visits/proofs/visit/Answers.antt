use mathlib.Core.Path.{refl}
use Rattle.std.proofs.Common.{rules}
use Rattle.visits.proofs.Made.{kept-as, went-as, set-called, go-called, drop-called}
use Rattle.visits.proofs.visit.Goals.{in-0, in-1, in_default}
use Rattle.visits.proofs.visit.Goals as goal

pub returns : goal.returns
returns c = elim c.match-kind.branch [
  | in-0 w ↦
      let s = c.args in
      let e = kept-as w.set_point.result c.match-kind.answer (λ x h. rw w.answer-is (search rules)) (λ q h. rw w.answer-is (search rules)) in
      rw w.store-is (set-called s.calls.now s.k _ _ _ _ _ refl _ c.name_at-name.ensures (search rules) _ w.pair_at.ensures _ w.set_point.ensures.met (rw e at c.put_answer.ensures))
  | in-1 w ↦
      let s = c.args in
      let e = went-as w.go_to.result c.match-kind.answer (λ x h. rw w.answer-is (search rules)) (λ q h. rw w.answer-is (search rules)) in
      rw w.store-is (go-called s.calls.now s.k _ _ _ _ _ refl _ c.name_at-name.ensures (search rules) _ w.go_to.ensures.value refl (rw e at c.put_answer.ensures))
  | in_default w ↦
      let s = c.args in
      let e = kept-as w.drop_point.result c.match-kind.answer (λ x h. rw w.answer-is (search rules)) (λ q h. rw w.answer-is (search rules)) in
      rw w.store-is (drop-called s.calls.now s.k _ _ _ _ _ refl _ c.name_at-name.ensures (search rules) (search rules) _ w.drop_point.ensures.met (rw e at c.put_answer.ensures))
]
