use Rattle.std.proofs.Common.{◌≡◌, ◌+◌, ◌-◌, ◌/◌, get_or, take, sym, refl, ap, ◌∙◌, arith}
use Rattle.std.proofs.lemmas.List.{get_or_past}
use Rattle.beetle.specs.Mode.{shuffled}
use Rattle.beetle.proofs.Shuffles.{shuffled_low, shuffled_high, length_shuffled}
use Rattle.beetle.proofs.sponge.shuffled_byte.Goals as goal

pub returns-then-i-half : goal.returns-then-i-half
returns-then-i-half g c =
    let law = g.R.Rate.lawful in
    let half = c.BYTES-half.ensures in
    sym (shuffled_low g.R.Rate.BYTES (c.BYTES-half.result / 2) c.args.state.now (ap (λ n. n / 2) (sym half)) (omega arith) (omega arith) c.args.i c.if-i-half.true)

pub returns-then-i-BYTES : goal.returns-then-i-BYTES
returns-then-i-BYTES g c =
    let law = g.R.Rate.lawful in
    let whole = c.BYTES.ensures in
    let half = c.BYTES-half.ensures in
    let S = c.args.state.now in
    let h = c.BYTES-half.result / 2 in
    let at : h + (c.args.i - h) ≡ c.args.i = omega arith in
    let front = shuffled g.R.Rate.BYTES (take g.R.Rate.BYTES S) in
    sym (ap (λ k. get_or front k 0) (sym at) ∙ shuffled_high g.R.Rate.BYTES h S (ap (λ n. n / 2) (sym half)) (omega arith) (omega arith) (c.args.i - h) (omega arith))

pub returns-else-i-BYTES : goal.returns-else-i-BYTES
returns-else-i-BYTES g c =
    let law = g.R.Rate.lawful in
    let whole = c.BYTES.ensures in
    let front = shuffled g.R.Rate.BYTES (take g.R.Rate.BYTES c.args.state.now) in
    let long = length_shuffled g.R.Rate.BYTES (g.R.Rate.BYTES / 2) c.args.state.now refl (omega arith) (omega arith) in
    sym (get_or_past front c.args.i 0 (omega arith))
