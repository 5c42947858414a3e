-- Serves proofs alone: a line's deed as the command that asks for it.
use Rattle.std.specs.Prelude.{ℕ, true, false}
use Rattle.broad_index.specs.declared.query.Query.{Query}
use Rattle.broad_index.specs.declared.query.Query.TheVariants.{Region, Spot, Along, Between, Swept}
use Rattle.scene_words.specs.declared.command.Command.{Command}
use Rattle.scene_words.specs.declared.command.Command.TheVariants as command
use Rattle.frame_player.specs.declared.asked.Asked.{Asked}
use Rattle.frame_player.specs.declared.asked.Asked.TheVariants.{Hits, Entered}
use Rattle.frame_player.specs.declared.deed.Deed.{Deed}
use Rattle.frame_player.specs.declared.deed.Deed.TheVariants.{Nothing, Ask, Nearest, EndFrame, Change as Changed}
use Rattle.frame_player.specs.declared.deed.Change.{Change}
use Rattle.frame_player.specs.declared.deed.Change.TheVariants.{Header, Add, Move, Mask, Remove, Mark, Back}

-- the command of a query
abbrev pub asking_hits : Query → ℕ → Command
asking_hits (Region body) mask = command.BoxQ body mask
asking_hits (Spot at) mask = command.PointQ at mask
asking_hits (Along ray) mask = command.RayQ ray mask false
asking_hits (Between seg) mask = command.SegQ seg mask
asking_hits (Swept cast) mask = command.Cast cast mask

-- the command of a query that can wait
abbrev pub asking : Asked → Command
asking (Hits query mask) = asking_hits query mask
asking (Entered ray mask) = command.RayQ ray mask true

-- the command of a change
abbrev pub changing : Change → Command
changing (Header version) = command.Header version
changing (Add body masks group) = command.Add body masks group
changing (Move handle body) = command.Move handle body
changing (Mask handle masks) = command.Mask handle masks
changing (Remove handle) = command.Remove handle
changing Mark = command.Mark
changing Back = command.Back

-- the command that asks for a deed
abbrev pub command_of : Deed → Command
command_of Nothing = command.Blank
command_of (Ask asked) = asking asked
command_of (Nearest query) = command.Near query.at query.want query.mask
command_of EndFrame = command.Frame
command_of (Changed change) = changing change
