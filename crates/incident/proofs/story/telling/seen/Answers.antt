use Rattle.std.proofs.Common.{is_ok, ap, subst, rules}
use Rattle.legends.specs.Promise.{Look}
use Rattle.incident.proofs.story.telling.seen.Goals as goal

pub returns : goal.returns
returns c f keeps calls left =
    let look = c.draw.ensures.look f keeps 2 calls left (ap is_ok (c.draw.ensures.decided f keeps 2 calls left)) in
    record { two = search rules; look = subst (Look f 2 calls) (search rules) look }
