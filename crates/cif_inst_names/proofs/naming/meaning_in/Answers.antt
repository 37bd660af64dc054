use Rattle.cif_inst_names.proofs.NameLaws.{home-names, home-below, read-by}
use Rattle.cif_inst_names.proofs.naming.meaning_in.Goals as goal

pub meaning-requires : goal.meaning-requires
meaning-requires c = record {
  names = home-names c.args.looking.now c.args.component c.requires;
  component = home-below c.args.looking.now c.args.component c.requires;
}

pub returns : goal.returns
returns c = read-by c.args.looking.now c.args.component c.args.name.now c.requires c.meaning.result c.meaning.ensures
