use Rattle.solo_laws.proofs.Following.Leaking.{leaks_shown}
use Rattle.solo_laws.proofs.answers.leaks_show_alike.Goals as goal

pub returns : goal.returns
returns g c its s p both choice owned many life = leaks_shown its choice s p both owned many life
