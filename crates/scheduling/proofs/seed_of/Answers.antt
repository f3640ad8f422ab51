use Rattle.scheduling.proofs.SeedLaws.{seed-first, seed-yield, seed-skip, seed-disabled}
use Rattle.scheduling.proofs.seed_of.Goals as goal

pub returns-then-first : goal.returns-then-first
returns-then-first c = λ numbers t is. seed-first c.args.first _ c.if-first.true

pub returns-in-3 : goal.returns-in-3
returns-in-3 c = λ numbers t is. seed-yield c.args.first c.if-first.false c.args.state numbers t is c.in-3.is

pub returns-in-1 : goal.returns-in-1
returns-in-1 c = λ numbers t is. seed-skip c.args.first c.if-first.false c.args.state numbers t is c.in-1.is

pub returns-in_default : goal.returns-in_default
returns-in_default c = λ numbers t is. seed-disabled c.args.first c.if-first.false c.args.state numbers t is c.in_default.in_default-own.rest.0.1 c.in_default.in_default-own.rest.1
