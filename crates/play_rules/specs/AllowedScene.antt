-- Commands, one after another, each allowed where it stands.
use Rattle.std.specs.Prelude.{◌≡◌, true, List, [], ◌∷◌, Ok}
use Rattle.scene_words.specs.declared.command.Command.{Command}
use Rattle.play_rules.specs.World.{World, after, allowed}

-- each command is allowed in the world that those before it leave
abbrev pub AreAllowed : World → List Command → Type 0
AreAllowed w [] = Unit {0}
AreAllowed w (c ∷ cs) = (allowed w (Ok c) ≡ Ok c) × AreAllowed (after true w c) cs

-- the world after commands
abbrev pub after_all : World → List Command → World
after_all w [] = w
after_all w (c ∷ cs) = after_all (after true w c) cs
