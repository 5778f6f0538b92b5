use Rattle.walks.proofs.ShortestOfAll.{shortest_of_all}
use Rattle.walks.proofs.shortest_stand.Goals as goal

pub returns : goal.returns
returns c = shortest_of_all
