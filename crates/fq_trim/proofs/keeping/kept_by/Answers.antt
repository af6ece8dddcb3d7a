use Rattle.fq_trim.proofs.keeping.kept_by.Goals as goal

-- CROP keeps the first bases
pub returns-in-Crop : goal.returns-in-Crop
returns-in-Crop c = rw c.in-Crop.is (c.crop.ensures c.args.encoding)

-- HEADCROP keeps all but the first bases
pub returns-in-HeadCrop : goal.returns-in-HeadCrop
returns-in-HeadCrop c = rw c.in-HeadCrop.is (c.head_crop.ensures c.args.encoding)

-- MINLEN keeps all bases or none
pub returns-in-MinLen : goal.returns-in-MinLen
returns-in-MinLen c = rw c.in-MinLen.is (c.min_len.ensures c.args.encoding)
