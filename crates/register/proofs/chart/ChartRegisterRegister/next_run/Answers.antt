use Rattle.std.proofs.Common.{◌≡◌, ℕ, ◌<◌, ◌≤◌, Some, true, false, ◌∙◌, rules, tests}
use Rattle.std.proofs.lemmas.Iterator.{first_from_Range}
use Rattle.std.specs.Option.{MatchOption}
use Rattle.register.specs.Chart.{charted}
use Rattle.register.specs.Runs.{begins, next_run}
use Rattle.register.specs.LawfulRegisters.{charted_small}
use Rattle.register.proofs.Walk.{first_run}
use Rattle.register.proofs.Finding.{none_begins, one_begins}
use Rattle.register.proofs.chart.ChartRegisterRegister.next_run.Goals as goal
use Rattle.register.proofs.chart.ChartRegisterRegister.next_run.Goals.{After-find}

found : (c : After-find) → MatchOption c.find.result
    ((k : ℕ) → c.args.n ≤ k → k < 4096 → begins (charted c.args.self.now.words) k ≡ false)
    (λ i. (c.args.n ≤ i) × (i < 4096) × (begins (charted c.args.self.now.words) i ≡ true) × ((k : ℕ) → c.args.n ≤ k → k < i → begins (charted c.args.self.now.words) k ≡ false))
found c = first_from_Range _ _ _ _ (λ i. begins (charted c.args.self.now.words) i ≡ true) (λ i. begins (charted c.args.self.now.words) i ≡ false) c.find.ensures.ran (λ x q k. search (rules, tests)) (λ x q k. search (rules, tests))

pub returns-in_err-first : goal.returns-in_err-first
returns-in_err-first c =
    let used = charted c.args.self.now.words in
    let f = rw c.in_err-first.was at (found (goal.at.returns-in_err-first c).After-find) in
    let value : c.from_residual.result ≡ next_run used c.args.n = c.from_residual.ensures ∙ none_begins used c.args.n f in
    record { value = value; first = first_run used (charted_small c.args.self.now.words) c.args.n _ value }

pub returns : goal.returns
returns c =
    let used = charted c.args.self.now.words in
    let f = rw c.in_ok-first.was at (found (goal.at.returns c).After-find) in
    let value : Some (c.in_ok-first.first, c.stretch.result) ≡ next_run used c.args.n = rw c.stretch.ensures (one_begins used c.args.n c.in_ok-first.first f.0 f.1 f.2 f.3) in
    record { value = value; first = first_run used (charted_small c.args.self.now.words) c.args.n _ value }
