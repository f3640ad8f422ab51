-- The settings, as the definition has them. Assumes nothing.
--     settings_of     those of the code
--     bound_for       the bound that a number stands for
use Rattle.std.specs.Prelude.{ℕ, cond, ltb}
use Rattle.rules.specs.Explored as rules
use Rattle.rules.specs.Path.{Bound, unbounded, at_most}
use Rattle.path.specs.Bounds.{bound_of}
use Rattle.settings.specs.declared.Settings.{Settings}

abbrev pub settings_of : Settings → rules.Settings
settings_of s = record {
  branches = s.branches;
  operations = s.operations;
  executions = s.executions;
  bound = bound_of s.bound;
  exploring = s.exploring;
}

-- 0 to 255; above them none
abbrev pub bound_for : ℕ → Bound
bound_for n = cond (ltb 255 n) unbounded (at_most n)
