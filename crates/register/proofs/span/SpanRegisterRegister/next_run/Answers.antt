use Rattle.std.proofs.Common.{◌≡◌, Some, sym, ap, ◌∙◌, arith}
use Rattle.std.proofs.lemmas.List.{get_or-map, length-map}
use Rattle.register.specs.Cover.{covered_small}
use Rattle.register.specs.Runs.{covered, next_run}
use Rattle.register.specs.Spans.{listed, pair_of, pairs_of}
use Rattle.register.proofs.Later.{next_some, next_none}
use Rattle.register.proofs.Walk.{first_run}
use Rattle.register.proofs.span.SpanRegisterRegister.next_run.Goals as goal

pub returns-in_err-span : goal.returns-in_err-span
returns-in_err-span c =
    let r = c.args.self.now in
    let is = c.as_slice-spans.ensures.spans in
    let size = length-map c.as_slice-spans.result.now pair_of in
    let found = c.before-2.ensures in
    let l = c.in_err-span.ensures.lookup in
    let past = l.3 in
    let value : c.from_residual.result ≡ next_run (covered (listed r.spans)) c.args.n =
    c.from_residual.ensures ∙ (rw is at (next_none (pairs_of c.as_slice-spans.result.now) c.args.n c.before-2.result (rw is r.ordered) (omega arith) found.earlier (λ h. found.later (omega arith)) (omega arith))) in
    record { value = value; first = first_run (covered (listed r.spans)) (covered_small 0 (listed r.spans) r.ordered) c.args.n _ value }

pub returns : goal.returns
returns c =
    let r = c.args.self.now in
    let is = c.as_slice-spans.ensures.spans in
    let size = length-map c.as_slice-spans.result.now pair_of in
    let found = c.before-2.ensures in
    let l = c.in_ok-span.ensures.lookup in
    let value : Some (pair_of c.in_ok-span.span.now) ≡ next_run (covered (listed r.spans)) c.args.n =
    rw is at (ap (λ s. Some (pair_of s)) l.1 ∙ ap Some (sym (get_or-map pair_of c.as_slice-spans.result.now c.before-2.result c.in_ok-span.span.now (0, 0) l.3.0)) ∙
    next_some (pairs_of c.as_slice-spans.result.now) c.args.n c.before-2.result (rw is r.ordered) (omega arith) found.earlier (λ h. found.later (omega arith)) (omega (arith, l.3.0))) in
    record { value = value; first = first_run (covered (listed r.spans)) (covered_small 0 (listed r.spans) r.ordered) c.args.n _ value }
