mod Equal
