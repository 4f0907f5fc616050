use Rattle.std.proofs.Common.{◌≡◌, ℕ, ◌-◌, ◌<◌, ◌≤◌, true, false, unwrap_or, rules, tests}
use Rattle.std.proofs.lemmas.Iterator.{first_from_Range}
use Rattle.std.specs.Option.{MatchOption}
use Rattle.register.specs.Chart.{charted}
use Rattle.register.specs.Runs.{stretch}
use Rattle.register.specs.LawfulRegisters.{charted_small}
use Rattle.register.proofs.Finding.{stretch_ends}
use Rattle.register.proofs.chart.ChartRegister.stretch.Goals as goal
use Rattle.register.proofs.chart.ChartRegister.stretch.Goals.{After-find}

found : (c : After-find) → MatchOption c.find.result
    ((k : ℕ) → c.args.first ≤ k → k < 4096 → charted c.args.self.now.words k ≡ true)
    (λ i. (c.args.first ≤ i) × (i < 4096) × (charted c.args.self.now.words i ≡ false) × ((k : ℕ) → c.args.first ≤ k → k < i → charted c.args.self.now.words k ≡ true))
found c = first_from_Range _ _ _ _ (λ i. charted c.args.self.now.words i ≡ false) (λ i. charted c.args.self.now.words i ≡ true) c.find.ensures.ran (λ x q k. search (rules, tests)) (λ x q k. search (rules, tests))

-- the stretch goes up to what was found, or to 4096
ended : (c : After-find) → (c.args.first ≤ unwrap_or c.find.result 4096) × (unwrap_or c.find.result 4096 - c.args.first ≡ stretch (charted c.args.self.now.words) (4096 - c.args.first) c.args.first)
ended c = stretch_ends (charted c.args.self.now.words) (charted_small c.args.self.now.words) c.args.first c.find.result c.requires (found c)

pub overflow_sub-result : goal.overflow_sub-result
overflow_sub-result c = rw c.unwrap_or-end.ensures (ended (goal.at.overflow_sub-result c).After-find).0

pub returns : goal.returns
returns c = rw c.unwrap_or-end.ensures (ended (goal.at.returns c).After-find).1
