use Rattle.job_plan.proofs.PlanLaw.{conflicts_are, parts_are}
use Rattle.job_plan.proofs.law.plans_have_the_phases_of_their_scenario.Goals as goal

pub returns-clause-conflicts : goal.returns-clause-conflicts
returns-clause-conflicts c = λ s lawful n m. conflicts_are s lawful n m

pub returns-clause-parts : goal.returns-clause-parts
returns-clause-parts c = λ s lawful frame steps. parts_are s lawful frame steps
