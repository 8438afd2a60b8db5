-- What was read is of the bytes that the host says.
use Rattle.image_edits.proofs.EditRead.{image-read, read-of, unread-unbegun}
use Rattle.image_edits.proofs.Held.{read-cvt, read-held}
use Rattle.image_edits.specs.Columns.{text_in}
use Rattle.image_edits.proofs.edits.source_for.Goals as goal

pub returns-in-Put : goal.returns-in-Put
returns-in-Put g c = record {
  read = rw c.in-Put.is (read-held g.R.HostFiles.stands c.args.rt.now c.in-Put.file.now c.file_at.result
      c.file_at.ensures.read);
  err = unread-unbegun c.file_at.result c.file_at.ensures.err;
}

pub returns-in-PutGeos : goal.returns-in-PutGeos
returns-in-PutGeos g c = record {
  read = rw c.in-PutGeos.is (read-cvt g.R.HostFiles.stands c.args.rt.now c.in-PutGeos.file.now c.cvt_at.result
      c.cvt_at.ensures.read);
  err = unread-unbegun c.cvt_at.result c.cvt_at.ensures.err;
}

pub returns-in-CopyFile : goal.returns-in-CopyFile
returns-in-CopyFile g c = record {
  read = rw c.in-CopyFile.is (image-read g.R.HostFiles.rights g.R.HostFiles.stands c.args.rt.now c.in-CopyFile.from.now
      c.image_at.result c.image_at.ensures.read);
  err = c.image_at.ensures.err;
}

pub returns-in-Store : goal.returns-in-Store
returns-in-Store g c = record {
  read = rw c.in-Store.is (read-of g.R.HostFiles.stands c.args.rt.now c.in-Store.records.now c.records_at.result
      (text_in c.in-Store.columns) c.records_at.ensures.read);
  err = unread-unbegun c.records_at.result c.records_at.ensures.err;
}
