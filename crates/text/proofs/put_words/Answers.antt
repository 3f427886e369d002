use Rattle.laws.specs.Kit.{refl, arith}
use Rattle.laws.specs.Stores.{put_mid-sets}
use Rattle.text.proofs.put_words.Goals as goal

pub returns : goal.returns
returns c =
    record {
      stored = put_mid-sets c.args.at _ c.args.out.now c.args.words.now _ c.copy_from_slice.ensures.after (omega arith) c.requires;
      behind = refl;
    }
